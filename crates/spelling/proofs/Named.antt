-- Every constant that a draft puts down has a name, and every name is short.
use Rattle.std.proofs.Common.{◌≡◌, ℕ, ◌+◌, ◌<◌, ◌≤◌, Bool, true, false, cond, not, eqb, leb, List, [], ◌∷◌, ◌++◌, map, length, sym, refl, ap, ◌∙◌, subst, arith}
use Rattle.std.specs.List.{AllByRecursion}
use Rattle.std.proofs.lemmas.Bool.{and_parts, eqb-true, leb-true}
use Rattle.text.specs.Words.{Word, is_variable, is_term, is_dollar}
use Rattle.rules.specs.Rules.{Rule}
use Rattle.rules.specs.Books.{base}
use Rattle.rules.specs.declared.term.Kind.{Kind}
use Rattle.rules.specs.declared.term.Kind.TheVariants.{Functional, Equality}
use Rattle.rules.specs.declared.term.Term.{Term}
use Rattle.rules.specs.declared.term.Term.TheVariants.{Constant, Variable}
use Rattle.sheets.specs.Layout.{kind_word}
use Rattle.reader.specs.declared.desk.Counting.TheVariants as counting
use Rattle.reader.specs.declared.desk.Entry.{Entry}
use Rattle.reader.specs.declared.desk.Entry.TheVariants as entries
use Rattle.reader.specs.Format.{Memo, number_of, seen_in, fits, all_terms, all_variables, shaped, with_names, with_vars, in_targets}
use Rattle.spelling.specs.Draft.{RuleDraft, Draft, add, extend, put, puts, puts_all, put_number, put_list, put_lists, after_rows, put_rule, put_rules, rules_memo, targets_memo, put_down, LinesOk, ListsOk, RuleOk, RulesOk, DraftOk}
use Rattle.spelling.specs.Book.{term_in, row_terms, pattern_of, numbers_of, pair_of, pairs_in, twice, pairs_of, rule_of, rules_of, book_of, targets_of}
use Rattle.spelling.proofs.Facts.{ext_names, number_below, add-more}

-- a constant is one of the first N
abbrev pub Below : ℕ → Term → Type 0
Below N (Constant c) = c < N
Below N (Variable v) = Unit {0}

abbrev pub PairBelow : ℕ → Term × Term → Type 0
PairBelow N p = Below N p.0 × Below N p.1

abbrev pub RuleBelow : ℕ → Rule → Type 0
RuleBelow N r = AllByRecursion (AllByRecursion (Below N)) r.pattern × AllByRecursion (PairBelow N) r.pairs

abbrev pub Short : Word → Type 0
Short w = length w.bytes ≤ 24

-- from m on to n: names are only added, short ones, and P holds where there are N names and more
record Grows (m n : Memo) (P : ℕ → Type 0) : Type 0 where
  names : length m.names ≤ length n.names
  short : AllByRecursion Short m.names → AllByRecursion Short n.names
  holds : (N : ℕ) → length n.names ≤ N → P N

then : {m n k : Memo} {P Q : ℕ → Type 0} → Grows m n P → Grows n k Q → Grows m k (λ N. P N × Q N)
then a b =
    let x = a.names in
    let y = b.names in
    record { names = omega arith; short = λ s. b.short (a.short s); holds = λ N l. (a.holds N (omega arith), b.holds N l) }

-- the names are as they were
kept : (m n : Memo) → n.names ≡ m.names → Grows m n (λ N. Unit {0})
kept m n e = let l = ap length e in record { names = omega arith; short = λ s. subst (AllByRecursion Short) (sym e) s; holds = λ N h. tt }

extended : (m k : Memo) (xs : List ℕ) → k.names ≡ m.names → Grows m (extend k xs) (λ N. Unit {0})
extended m k xs e = kept m (extend k xs) (ext_names k xs k.part ∙ e)

all_push : {X : Type 0} (P : X → Type 0) (xs : List X) (x : X) → AllByRecursion P xs → P x → AllByRecursion P (xs ++ x ∷ [])
all_push P [] x h p = (p, tt)
all_push P (y ∷ ys) x h p = (h.0, all_push P ys x h.1 p)

add-short : (seen : List Word) (w : Word) → AllByRecursion Short seen → Short w → AllByRecursion Short (add seen w)
add-short seen w h p = by (seen_in seen w)
  where
    by : (t : Bool) → AllByRecursion Short (cond t seen (seen ++ w ∷ []))
    by true = h
    by false = all_push Short seen w h p

put-grows : (m : Memo) (w : Word) → Short w → Grows m (put m w) (λ N. Below N (term_in m w))
put-grows m w p =
    let xs = (base + number_of m.vars w) ∷ [] in
    let ys = number_of m.names w ∷ [] in
    let mv = with_vars m (add m.vars w) in
    let mn = with_names m (add m.names w) in
    elim (is_variable w.bytes) as (λ t. Grows m (cond t (extend mv xs) (extend mn ys)) (λ N. Below N (cond t (Variable (number_of m.vars w)) (Constant (number_of m.names w))))) [
      | true ↦
          let e = ext_names mv xs m.part in
          let l = ap length e in
          record { names = omega arith; short = λ s. subst (AllByRecursion Short) (sym e) s; holds = λ N h. tt }
      | false ↦
          let e = ext_names mn ys m.part in
          let l = ap length e in
          let more = add-more m.names w in
          let below = number_below m.names w in
          record { names = omega arith; short = λ s. subst (AllByRecursion Short) (sym e) (add-short m.names w s p); holds = λ N h. omega arith }
    ]

term_short : (w : Word) → is_term w.bytes ≡ true → Short w
term_short w h = leb-true _ _ (and_parts (leb (length w.bytes) 24) (not (is_dollar w.bytes)) h).0

puts-grows : (m : Memo) (ws : List Word) → all_terms ws ≡ true → Grows m (puts m ws) (λ N. AllByRecursion (Below N) (row_terms m ws))
puts-grows m [] h = record { names = omega arith; short = λ s. s; holds = λ N l. tt }
puts-grows m (w ∷ ws) h =
    let p = and_parts (is_term w.bytes) (all_terms ws) h in
    then (put-grows m w (term_short w p.0)) (puts-grows (put m w) ws p.1)

-- a line that is due has words of a word's form
terms_of : (W : ℕ) (ws : List Word) (e : Entry) → shaped W ws e ≡ true → all_terms ws ≡ true
terms_of W ws entries.Row h = (and_parts (eqb (length ws) W) (all_terms ws) h).1
terms_of W ws entries.Variable h = (and_parts (eqb (length ws) 1) (all_terms ws) (and_parts (fits 1 ws) (all_variables ws) h).0).1
terms_of W ws entries.Pair h = (and_parts (eqb (length ws) 2) (all_terms ws) h).1

all_grows : (e : Entry) (m : Memo) (xs : List (List Word)) → LinesOk e m xs → Grows m (puts_all m xs) (λ N. AllByRecursion (AllByRecursion (Below N)) (pattern_of m xs))
all_grows e m [] h = record { names = omega arith; short = λ s. s; holds = λ N l. tt }
all_grows e m (ws ∷ xs) h = then (puts-grows m ws (terms_of m.width ws e h.0)) (all_grows e (puts m ws) xs h.2)

-- the pairs of lines with two terms
pair_below : (W : ℕ) (m : Memo) (ws : List Word) → shaped W ws entries.Pair ≡ true → (N : ℕ) → AllByRecursion (Below N) (row_terms m ws) → PairBelow N (pair_of (row_terms m ws))
pair_below W m [] h N b = let z : ◌≡◌ {A = ℕ} 0 2 = eqb-true 0 2 (and_parts (eqb 0 2) true h).0 in absurd (omega arith)
pair_below W m (w ∷ []) h N b = (b.0, b.0)
pair_below W m (w ∷ v ∷ ws) h N b = (b.0, b.1.0)

pairs_below : (m : Memo) (xs : List (List Word)) → LinesOk entries.Pair m xs → (N : ℕ) → AllByRecursion (AllByRecursion (Below N)) (pattern_of m xs) → AllByRecursion (PairBelow N) (pairs_in m xs)
pairs_below m [] h N b = tt
pairs_below m (ws ∷ xs) h N b = (pair_below m.width m ws h.0 N b.0, pairs_below (puts m ws) xs h.2 N b.1)

twice-below : (N : ℕ) (vs : List ℕ) → AllByRecursion (PairBelow N) (map twice vs)
twice-below N [] = tt
twice-below N (v ∷ vs) = ((tt, tt), twice-below N vs)

lists_grow : (k : Kind) (m : Memo) (r : RuleDraft) → ListsOk k m r → Grows m (put_lists k m r) (λ N. AllByRecursion (PairBelow N) (pairs_of k m r))
lists_grow Functional m r (lok, rok) =
    let m1 = put_number m (length r.left) counting.Left in
    let m2 = put_list counting.Left m r.left in
    let m3 = put_number m2 (length r.pairs) counting.Right in
    let a = then (extended m m (length r.left ∷ []) refl) (all_grows entries.Variable m1 r.left lok.lines) in
    let b = then (extended m2 m2 (length r.pairs ∷ []) refl) (all_grows entries.Variable m3 r.pairs rok.lines) in
    let c = then a b in
    record { names = c.names; short = c.short; holds = λ N l. twice-below N (numbers_of m3 r.pairs) }
lists_grow Equality m r ok =
    let m0 = extend m (0 ∷ []) in
    let m3 = put_number m (length r.pairs) counting.Pairs in
    let a = then (extended m m (0 ∷ []) refl) (extended m0 m0 (length r.pairs ∷ []) refl) in
    let c = then a (all_grows entries.Pair m3 r.pairs ok.lines) in
    record { names = c.names; short = c.short; holds = λ N l. pairs_below m3 r.pairs ok.lines N (c.holds N l).1 }

rule-grows : (m : Memo) (r : RuleDraft) → RuleOk m r → Grows m (put_rule m r) (λ N. RuleBelow N (rule_of m r))
rule-grows m r ok =
    let m0 = extend m (kind_word r.kind ∷ []) in
    let m1 = put_number m0 (length r.rows) counting.Rows in
    let a = then (extended m m (kind_word r.kind ∷ []) refl) (extended m0 (with_vars m0 []) (length r.rows ∷ []) refl) in
    let b = then a (all_grows entries.Row m1 r.rows ok.rows.lines) in
    let c = then b (lists_grow r.kind (after_rows m r) r ok.lists) in
    record { names = c.names; short = c.short; holds = λ N l. ((c.holds N l).0.1, (c.holds N l).1) }

rules_grow : (m : Memo) (rs : List RuleDraft) → RulesOk m rs → Grows m (put_rules m rs) (λ N. AllByRecursion (RuleBelow N) (rules_of m rs))
rules_grow m [] ok = record { names = omega arith; short = λ s. s; holds = λ N l. tt }
rules_grow m (r ∷ rs) (ok, oks) = then (rule-grows m r ok) (rules_grow (put_rule m r) rs oks)

-- what is put down names each constant, by a short name
pub record Named (d : Draft) : Type 0 where
  pub book : AllByRecursion (RuleBelow (length (put_down d).names)) (book_of d).rules
  pub targets : AllByRecursion (RuleBelow (length (put_down d).names)) (targets_of d).rules
  pub short : AllByRecursion Short (put_down d).names

pub named : (d : Draft) → DraftOk d → Named d
named d ok =
    let m = rules_memo d in
    let r = put_rules m d.rules in
    let t0 = in_targets r in
    let t1 = extend t0 (r.width ∷ []) in
    let t = targets_memo d in
    let a = rules_grow m d.rules ok.rules in
    let b = then (extended r t0 (r.width ∷ []) refl) (extended t1 t1 (length d.targets ∷ []) refl) in
    let c = rules_grow t d.targets ok.targets in
    let all = then (then a b) c in
    let h = all.holds (length (put_down d).names) (omega arith) in
    record { book = h.0.0; targets = h.1; short = all.short tt }
