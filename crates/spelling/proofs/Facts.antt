-- What the words of a rule come to: terms in range, and each variable of a list in the rows.
use Rattle.std.proofs.Common.{◌≡◌, ℕ, suc, ◌+◌, ◌*◌, ◌<◌, ◌≤◌, Bool, true, false, cond, not, ◌||◌, eqb, List, [], ◌∷◌, ◌++◌, length, sym, refl, ap, ◌∙◌, subst, ⊎_elim, arith, length-append}
use mathlib.Core.List.Memᴰ
use lib.ListN.{length-map}
use Rattle.std.specs.List.{AllByRecursion}
use Rattle.std.proofs.lemmas.List.Sums.{prefix_len-le-length}
use Rattle.std.proofs.lemmas.Bool.{cases_Bool, cases_lt, and_parts, eqb-true, ltb-true, ltb-false, cond-true, cond-false}
use Rattle.text.specs.Words.{Word, bytes_of, is_variable, differs}
use Rattle.rules.specs.Rules.{◌∈◌}
use Rattle.rules.specs.Books.{base, Small}
use Rattle.rules.specs.declared.term.Term.{Term}
use Rattle.rules.specs.declared.term.Term.TheVariants.{Constant, Variable}
use Rattle.reader.specs.declared.desk.Entry.TheVariants as entries
use Rattle.reader.specs.declared.desk.Part.{Part}
use Rattle.reader.specs.declared.desk.Part.TheVariants as parts
use Rattle.reader.specs.Format.{Memo, number_of, seen_in, all_terms, all_known, with_names, with_vars}
use Rattle.spelling.specs.Draft.{add, extend_in, extend, put, puts, puts_all, LinesOk}
use Rattle.spelling.specs.Book.{term_in, row_terms, pattern_of}

pub all_mem : {X : Type 0} (P : X → Type 0) (xs : List X) → AllByRecursion P xs → (x : X) → x ∈ xs → P x
all_mem P [] h x m = absurd (Memᴰ.not-nil m)
all_mem P (y ∷ ys) h x m = ⊎_elim (λ e. subst P (sym e) h.0) (λ k. all_mem P ys h.1 x k) (Memᴰ.cases_cons m)

-- extending a sheet moves nothing else
module _ (m : Memo) (xs : List ℕ) where
  pub ext_names : (q : Part) → (extend_in m xs q).names ≡ m.names
  ext_names parts.Rules = refl
  ext_names parts.Targets = refl

  pub ext_vars : (q : Part) → (extend_in m xs q).vars ≡ m.vars
  ext_vars parts.Rules = refl
  ext_vars parts.Targets = refl

  pub ext_width : (q : Part) → (extend_in m xs q).width ≡ m.width
  ext_width parts.Rules = refl
  ext_width parts.Targets = refl

-- a word that was not seen has the next number
module _ (seen : List Word) (w : Word) where
  most : number_of seen w ≤ length seen
  most = let h = prefix_len-le-length (differs w.bytes) (bytes_of seen) in let l = length-map seen (λ x. x.bytes) in omega arith

  added_old : seen_in seen w ≡ true → add seen w ≡ seen
  added_old e = cond-true (seen_in seen w) seen (seen ++ w ∷ []) e

  added_new : seen_in seen w ≡ false → length (add seen w) ≡ length seen + 1
  added_new e = ap length (cond-false (seen_in seen w) seen (seen ++ w ∷ []) e) ∙ length-append seen (w ∷ [])

  pub number_below : number_of seen w < length (add seen w)
  number_below = ⊎_elim
      (λ e. let a = ap length (added_old e) in let b = ltb-true (number_of seen w) (length seen) e in omega arith)
      (λ e. let a = added_new e in let b = most in omega arith)
      (cases_Bool (seen_in seen w))

  pub add-more : length seen ≤ length (add seen w)
  add-more = ⊎_elim (λ e. let a = ap length (added_old e) in omega arith) (λ e. let a = added_new e in omega arith) (cases_Bool (seen_in seen w))

  pub add-one : length (add seen w) ≤ length seen + 1
  add-one = ⊎_elim (λ e. let a = ap length (added_old e) in omega arith) (λ e. let a = added_new e in omega arith) (cases_Bool (seen_in seen w))

  pub add-next : (v : ℕ) → length seen ≤ v → v < length (add seen w) → number_of seen w ≡ v
  add-next v lo hi = ⊎_elim
      (λ e. let a = ap length (added_old e) in absurd (omega arith))
      (λ e. let a = added_new e in let b = ltb-false (number_of seen w) (length seen) e in let c = most in omega arith)
      (cases_Bool (seen_in seen w))

-- from m by one word to n
record Facts (m n : Memo) (t : Term) : Type 0 where
  names : length m.names ≤ length n.names
  vars : length m.vars ≤ length n.vars
  one : length n.vars ≤ length m.vars + 1
  width : n.width ≡ m.width
  small : (N : ℕ) → N < base → length n.names ≤ N → length n.vars ≤ 32 → Small t
  new : (v : ℕ) → length m.vars ≤ v → v < length n.vars → Variable v ≡ t

put-facts : (m : Memo) (w : Word) → Facts m (put m w) (term_in m w)
put-facts m w =
    let xs = (base + number_of m.vars w) ∷ [] in
    let ys = number_of m.names w ∷ [] in
    let mv = with_vars m (add m.vars w) in
    let mn = with_names m (add m.names w) in
    elim (is_variable w.bytes) as (λ t. Facts m (cond t (extend mv xs) (extend mn ys)) (cond t (Variable (number_of m.vars w)) (Constant (number_of m.names w)))) [
      | true ↦
          let a = ap length (ext_names mv xs m.part) in
          let b = ap length (ext_vars mv xs m.part) in
          let more = add-more m.vars w in
          let one = add-one m.vars w in
          let below = number_below m.vars w in
          record {
            names = omega arith;
            vars = omega arith;
            one = omega arith;
            width = ext_width mv xs m.part;
            small = λ N h i j. omega arith;
            new = λ v lo hi. ap Variable (sym (add-next m.vars w v lo (omega arith)));
          }
      | false ↦
          let a = ap length (ext_names mn ys m.part) in
          let b = ap length (ext_vars mn ys m.part) in
          let more = add-more m.names w in
          let below = number_below m.names w in
          record {
            names = omega arith;
            vars = omega arith;
            one = omega arith;
            width = ext_width mn ys m.part;
            small = λ N h i j. omega arith;
            new = λ v lo hi. absurd (omega arith);
          }
    ]

-- by the words of a line
pub record RowFacts (m n : Memo) (many : ℕ) (ts : List Term) : Type 0 where
  pub names : length m.names ≤ length n.names
  pub vars : length m.vars ≤ length n.vars
  pub few : length n.vars ≤ length m.vars + many
  pub width : n.width ≡ m.width
  pub long : length ts ≡ many
  pub small : (N : ℕ) → N < base → length n.names ≤ N → length n.vars ≤ 32 → AllByRecursion Small ts
  pub new : (v : ℕ) → length m.vars ≤ v → v < length n.vars → Variable v ∈ ts

pub puts-facts : (m : Memo) (ws : List Word) → RowFacts m (puts m ws) (length ws) (row_terms m ws)
puts-facts m [] = record { names = omega arith; vars = omega arith; few = omega arith; width = refl; long = refl; small = λ N h i j. tt; new = λ v lo hi. absurd (omega arith) }
puts-facts m (w ∷ ws) =
    let k = put m w in
    let a = put-facts m w in
    let b = puts-facts k ws in
    record {
      names = omega arith;
      vars = omega arith;
      few = omega arith;
      width = b.width ∙ a.width;
      long = ap suc b.long;
      small = λ N h i j. (a.small N h (omega arith) (omega arith), b.small N h i j);
      new = λ v lo hi. ⊎_elim (λ lt. Memᴰ.head (a.new v lo lt)) (λ ge. Memᴰ.tail (b.new v ge hi)) (cases_lt v (length k.vars));
    }

-- by lines of at most 8 words
pub record AllFacts (m n : Memo) (many : ℕ) (rows : List (List Term)) : Type 0 where
  pub names : length m.names ≤ length n.names
  pub few : length n.vars ≤ length m.vars + 8 * many
  pub vars : length m.vars ≤ length n.vars
  pub width : n.width ≡ m.width
  pub long : AllByRecursion (λ row. length row ≡ m.width) rows
  pub small : (N : ℕ) → N < base → length n.names ≤ N → length n.vars ≤ 32 → AllByRecursion (AllByRecursion Small) rows
  pub new : (v : ℕ) → length m.vars ≤ v → v < length n.vars → (row : List Term) × (row ∈ rows) × (Variable v ∈ row)

pub rows-facts : (m : Memo) (xs : List (List Word)) → m.width ≤ 8 → LinesOk entries.Row m xs → AllFacts m (puts_all m xs) (length xs) (pattern_of m xs)
rows-facts m [] narrow h = record { names = omega arith; few = omega arith; vars = omega arith; width = refl; long = tt; small = λ N l i j. tt; new = λ v lo hi. absurd (omega arith) }
rows-facts m (ws ∷ xs) narrow h =
    let k = puts m ws in
    let a = puts-facts m ws in
    let fit = eqb-true (length ws) m.width (and_parts (eqb (length ws) m.width) (all_terms ws) h.0).0 in
    let same = a.width in
    let b = rows-facts k xs (omega arith) h.2 in
    record {
      names = omega arith;
      few = omega arith;
      vars = omega arith;
      width = b.width ∙ a.width;
      long = (a.long ∙ fit, subst (λ W. AllByRecursion (λ row. length row ≡ W) (pattern_of k xs)) same b.long);
      small = λ N l i j. (a.small N l (omega arith) (omega arith), b.small N l i j);
      new = λ v lo hi. ⊎_elim
          (λ lt. (row_terms m ws, Memᴰ.head refl, a.new v lo lt))
          (λ ge. let r = b.new v ge hi in (r.0, Memᴰ.tail r.1, r.2))
          (cases_lt v (length k.vars));
    }

-- a line with known variables adds none
pub known-vars : (m : Memo) (w : Word) → (not (is_variable w.bytes) || seen_in m.vars w) ≡ true → (put m w).vars ≡ m.vars
known-vars m w h =
    let xs = (base + number_of m.vars w) ∷ [] in
    let ys = number_of m.names w ∷ [] in
    let mv = with_vars m (add m.vars w) in
    let mn = with_names m (add m.names w) in
    by (extend mv xs) (extend mn ys) (is_variable w.bytes) h (λ s. ext_vars mv xs m.part ∙ added_old m.vars w s) (ext_vars mn ys m.part)
  where
    by : (A B : Memo) (t : Bool) → (not t || seen_in m.vars w) ≡ true → (seen_in m.vars w ≡ true → A.vars ≡ m.vars) → B.vars ≡ m.vars → (cond t A B).vars ≡ m.vars
    by A B true h a b = a h
    by A B false h a b = b

pub line_vars : (m : Memo) (ws : List Word) → all_known m.vars ws ≡ true → (puts m ws).vars ≡ m.vars
line_vars m [] h = refl
line_vars m (w ∷ ws) h =
    let p = and_parts (not (is_variable w.bytes) || seen_in m.vars w) (all_known m.vars ws) h in
    let e = known-vars m w p.0 in
    line_vars (put m w) ws (subst (λ vs. all_known vs ws ≡ true) (sym e) p.1) ∙ e
