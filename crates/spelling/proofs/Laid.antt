-- What is put down is the book laid out.
use Rattle.std.proofs.Common.{◌≡◌, ℕ, suc, ◌+◌, true, false, cond, eqb, List, [], ◌∷◌, ◌++◌, map, length, sym, refl, ap, ◌∙◌, subst, append_assoc, append-nil, arith, length-append}
use lib.ListN.{length-map}
use Rattle.std.specs.List.{flat_map}
use Rattle.std.proofs.lemmas.Bool.{and_parts, eqb-true}
use Rattle.text.specs.Words.{Word, is_variable}
use Rattle.rules.specs.Books.{base}
use Rattle.rules.specs.declared.term.Kind.{Kind}
use Rattle.rules.specs.declared.term.Kind.TheVariants.{Functional, Equality}
use Rattle.rules.specs.declared.term.Term.TheVariants.{Constant, Variable}
use Rattle.sheets.specs.Layout.{word_of, kind_word, pair_words, left_words, layout_lists, layout_rule, layout}
use Rattle.reader.specs.declared.desk.Counting.TheVariants as counting
use Rattle.reader.specs.declared.desk.Entry.TheVariants as entries
use Rattle.reader.specs.declared.desk.Part.{Part}
use Rattle.reader.specs.declared.desk.Part.TheVariants as parts
use Rattle.reader.specs.Format.{Memo, number_of, fits, all_terms, all_variables, shaped, with_names, with_vars, in_targets}
use Rattle.spelling.specs.Draft.{RuleDraft, Draft, add, extend_in, extend, put, puts, puts_all, put_number, put_list, put_lists, after_rows, put_rule, put_rules, after_width, rules_memo, targets_memo, put_down, LinesOk, ListsOk, RuleOk, RulesOk, DraftOk}
use Rattle.spelling.specs.Book.{term_in, row_terms, pattern_of, numbers_of, pair_of, pairs_in, twice, left_of, pairs_of, rule_of, rules_of, book_of, targets_of}

abbrev pick : Part → List ℕ → List ℕ → List ℕ
pick parts.Rules a b = a
pick parts.Targets a b = b

-- more words in the sheet of this part, and nothing else moved
record Grown (p : Part) (m n : Memo) (xs : List ℕ) : Type 0 where
  stays : n.part ≡ p
  width : n.width ≡ m.width
  grows : pick p n.rules n.targets ≡ pick p m.rules m.targets ++ xs
  rests : pick p n.targets n.rules ≡ pick p m.targets m.rules

then : {p : Part} {m n k : Memo} {xs ys : List ℕ} → Grown p m n xs → Grown p n k ys → Grown p m k (xs ++ ys)
then {p} {m} {n} {k} {xs} {ys} a b = record {
  stays = b.stays;
  width = b.width ∙ a.width;
  grows = b.grows ∙ ap (λ z. z ++ ys) a.grows ∙ append_assoc (pick p m.rules m.targets) xs ys;
  rests = b.rests ∙ a.rests;
}

extended : (p : Part) (m : Memo) (xs : List ℕ) → m.part ≡ p → Grown p m (extend m xs) xs
extended p m xs e = record {
  stays = ap (λ q. (extend_in m xs q).part) e ∙ part p ∙ e;
  width = ap (λ q. (extend_in m xs q).width) e ∙ wide p;
  grows = ap (λ q. pick p (extend_in m xs q).rules (extend_in m xs q).targets) e ∙ more p;
  rests = ap (λ q. pick p (extend_in m xs q).targets (extend_in m xs q).rules) e ∙ less p;
}
  where
    part : (q : Part) → (extend_in m xs q).part ≡ m.part
    part parts.Rules = refl
    part parts.Targets = refl

    wide : (q : Part) → (extend_in m xs q).width ≡ m.width
    wide parts.Rules = refl
    wide parts.Targets = refl

    more : (q : Part) → pick q (extend_in m xs q).rules (extend_in m xs q).targets ≡ pick q m.rules m.targets ++ xs
    more parts.Rules = refl
    more parts.Targets = refl

    less : (q : Part) → pick q (extend_in m xs q).targets (extend_in m xs q).rules ≡ pick q m.targets m.rules
    less parts.Rules = refl
    less parts.Targets = refl

module _ (p : Part) where
  put-grown : (m : Memo) (w : Word) → m.part ≡ p → Grown p m (put m w) (word_of (term_in m w) ∷ [])
  put-grown m w e =
      let v = extended p (with_vars m (add m.vars w)) ((base + number_of m.vars w) ∷ []) e in
      let c = extended p (with_names m (add m.names w)) (number_of m.names w ∷ []) e in
      elim (is_variable w.bytes) as (λ t. Grown p m (cond t (extend (with_vars m (add m.vars w)) ((base + number_of m.vars w) ∷ [])) (extend (with_names m (add m.names w)) (number_of m.names w ∷ []))) (word_of (cond t (Variable (number_of m.vars w)) (Constant (number_of m.names w))) ∷ [])) [
        | true ↦ record { stays = v.stays; width = v.width; grows = v.grows; rests = v.rests }
        | false ↦ record { stays = c.stays; width = c.width; grows = c.grows; rests = c.rests }
      ]

  same : (m : Memo) → m.part ≡ p → Grown p m m []
  same m e = record { stays = e; width = refl; grows = sym (append-nil (pick p m.rules m.targets)); rests = refl }

  puts-grown : (m : Memo) (ws : List Word) → m.part ≡ p → Grown p m (puts m ws) (map word_of (row_terms m ws))
  puts-grown m [] e = same m e
  puts-grown m (w ∷ ws) e = let a = put-grown m w e in then a (puts-grown (put m w) ws a.stays)

  all_grown : (m : Memo) (xs : List (List Word)) → m.part ≡ p → Grown p m (puts_all m xs) (flat_map (map word_of) (pattern_of m xs))
  all_grown m [] e = same m e
  all_grown m (ws ∷ xs) e = let a = puts-grown m ws e in then a (all_grown (puts m ws) xs a.stays)

pub many_rows : (m : Memo) (xs : List (List Word)) → length (pattern_of m xs) ≡ length xs
many_rows m [] = refl
many_rows m (ws ∷ xs) = ap suc (many_rows (puts m ws) xs)

-- a line of one variable
one_variable : (m : Memo) (W : ℕ) (ws : List Word) → shaped W ws entries.Variable ≡ true → (map word_of (row_terms m ws) ≡ flat_map left_words (map (number_of m.vars) ws)) × (length (map (number_of m.vars) ws) ≡ 1)
one_variable m W [] h = let z : ◌≡◌ {A = ℕ} 0 1 = eqb-true 0 1 (and_parts (eqb 0 1) true (and_parts (fits 1 []) true h).0).0 in absurd (omega arith)
one_variable m W (w ∷ v ∷ ws) h =
    let z = eqb-true (length (w ∷ v ∷ ws)) 1 (and_parts (eqb (length (w ∷ v ∷ ws)) 1) (all_terms (w ∷ v ∷ ws)) (and_parts (fits 1 (w ∷ v ∷ ws)) (all_variables (w ∷ v ∷ ws)) h).0).0 in
    absurd (omega arith)
one_variable m W (w ∷ []) h =
    let var = (and_parts (is_variable w.bytes) true (and_parts (fits 1 (w ∷ [])) (all_variables (w ∷ [])) h).1).0 in
    (ap (λ t. word_of (cond t (Variable (number_of m.vars w)) (Constant (number_of m.names w))) ∷ []) var, refl)

pub variables-laid : (m : Memo) (xs : List (List Word)) → LinesOk entries.Variable m xs → (flat_map (map word_of) (pattern_of m xs) ≡ flat_map left_words (numbers_of m xs)) × (length (numbers_of m xs) ≡ length xs)
variables-laid m [] h = (refl, refl)
variables-laid m (ws ∷ xs) h =
    let a = one_variable m m.width ws h.0 in
    let b = variables-laid (puts m ws) xs h.2 in
    let ns = map (number_of m.vars) ws in
    let first = a.0 in
    let more = b.0 in
    let n = a.1 in
    ((λ i. first i ++ more i) ∙ sym (joined_append ns (numbers_of (puts m ws) xs)), length-append ns (numbers_of (puts m ws) xs) ∙ (let k = b.1 in omega arith))
  where
    joined_append : (xs ys : List ℕ) → flat_map left_words (xs ++ ys) ≡ flat_map left_words xs ++ flat_map left_words ys
    joined_append [] ys = refl
    joined_append (x ∷ xs) ys = ap (λ z. (base + x) ∷ z) (joined_append xs ys)

twice-laid : (vs : List ℕ) → flat_map left_words vs ≡ flat_map (pair_words Functional) (map twice vs)
twice-laid [] = refl
twice-laid (v ∷ vs) = ap (λ z. (base + v) ∷ z) (twice-laid vs)

-- a line of two terms
two_terms : (m : Memo) (W : ℕ) (ws : List Word) → shaped W ws entries.Pair ≡ true → map word_of (row_terms m ws) ≡ pair_words Equality (pair_of (row_terms m ws))
two_terms m W [] h = let z : ◌≡◌ {A = ℕ} 0 2 = eqb-true 0 2 (and_parts (eqb 0 2) true h).0 in absurd (omega arith)
two_terms m W (w ∷ []) h = let z : ◌≡◌ {A = ℕ} 1 2 = eqb-true 1 2 (and_parts (eqb 1 2) (all_terms (w ∷ [])) h).0 in absurd (omega arith)
two_terms m W (w ∷ v ∷ []) h = refl
two_terms m W (w ∷ v ∷ u ∷ ws) h =
    let z = eqb-true (length (w ∷ v ∷ u ∷ ws)) 2 (and_parts (eqb (length (w ∷ v ∷ u ∷ ws)) 2) (all_terms (w ∷ v ∷ u ∷ ws)) h).0 in
    absurd (omega arith)

pub pairs_laid : (m : Memo) (xs : List (List Word)) → LinesOk entries.Pair m xs → (flat_map (map word_of) (pattern_of m xs) ≡ flat_map (pair_words Equality) (pairs_in m xs)) × (length (pairs_in m xs) ≡ length xs)
pairs_laid m [] h = (refl, refl)
pairs_laid m (ws ∷ xs) h =
    let a = two_terms m m.width ws h.0 in
    let b = pairs_laid (puts m ws) xs h.2 in
    let more = b.0 in
    ((λ i. a i ++ more i), ap suc b.1)

module _ (p : Part) where
  number_grown : (m : Memo) (n : ℕ) → m.part ≡ p → Grown p m (extend m (n ∷ [])) (n ∷ [])
  number_grown m n e = extended p m (n ∷ []) e

  rows_grown : (m : Memo) (xs : List (List Word)) → m.part ≡ p → Grown p m (put_list counting.Rows m xs) (length xs ∷ flat_map (map word_of) (pattern_of (put_number m (length xs) counting.Rows) xs))
  rows_grown m xs e =
      let a = extended p (with_vars m []) (length xs ∷ []) e in
      let a' : Grown p m (put_number m (length xs) counting.Rows) (length xs ∷ []) = record { stays = a.stays; width = a.width; grows = a.grows; rests = a.rests } in
      then a' (all_grown p (put_number m (length xs) counting.Rows) xs a.stays)

  lists_grown : (k : Kind) (m : Memo) (r : RuleDraft) → m.part ≡ p → ListsOk k m r → Grown p m (put_lists k m r) (length (left_of k m r) ∷ (flat_map left_words (left_of k m r) ++ (length (pairs_of k m r) ∷ flat_map (pair_words k) (pairs_of k m r))))
  lists_grown Functional m r e (lok, rok) =
      let m1 = put_number m (length r.left) counting.Left in
      let a = number_grown m (length r.left) e in
      let b = all_grown p m1 r.left a.stays in
      let m2 = put_list counting.Left m r.left in
      let m3 = put_number m2 (length r.pairs) counting.Right in
      let c = number_grown m2 (length r.pairs) b.stays in
      let d = all_grown p m3 r.pairs c.stays in
      let l = variables-laid m1 r.left lok.lines in
      let q = variables-laid m3 r.pairs rok.lines in
      let vs = numbers_of m3 r.pairs in
      let lw = l.0 in
      let ln = sym l.1 in
      let qw = q.0 ∙ twice-laid vs in
      let qn = sym (length-map vs twice ∙ q.1) in
      subst (Grown p m (put_lists Functional m r)) (λ i. ln i ∷ (lw i ++ (qn i ∷ qw i))) (then a (then b (then c d)))
  lists_grown Equality m r e ok =
      let m0 = extend m (0 ∷ []) in
      let m3 = put_number m (length r.pairs) counting.Pairs in
      let a = number_grown m 0 e in
      let c = number_grown m0 (length r.pairs) a.stays in
      let d = all_grown p m3 r.pairs c.stays in
      let q = pairs_laid m3 r.pairs ok.lines in
      let qw = q.0 in
      let qn = sym q.1 in
      subst (Grown p m (put_lists Equality m r)) (λ i. 0 ∷ (qn i ∷ qw i)) (then a (then c d))

  rule-grown : (m : Memo) (r : RuleDraft) → m.part ≡ p → RuleOk m r → Grown p m (put_rule m r) (layout_rule (rule_of m r))
  unfolding layout_rule layout_lists
  rule-grown m r e ok =
      let a = number_grown m (kind_word r.kind) e in
      let m0 = extend m (kind_word r.kind ∷ []) in
      let b = rows_grown m0 r.rows a.stays in
      let c = lists_grown r.kind (after_rows m r) r b.stays ok.lists in
      let m1 = put_number m0 (length r.rows) counting.Rows in
      let n = sym (many_rows m1 r.rows) in
      let rest = length (left_of r.kind (after_rows m r) r) ∷ (flat_map left_words (left_of r.kind (after_rows m r) r) ++ (length (pairs_of r.kind (after_rows m r) r) ∷ flat_map (pair_words r.kind) (pairs_of r.kind (after_rows m r) r))) in
      subst (Grown p m (put_rule m r)) (λ i. kind_word r.kind ∷ (n i ∷ (flat_map (map word_of) (pattern_of m1 r.rows) ++ rest))) (then a (then b c))

  rules_grown : (m : Memo) (rs : List RuleDraft) → m.part ≡ p → RulesOk m rs → Grown p m (put_rules m rs) (flat_map layout_rule (rules_of m rs))
  rules_grown m [] e ok = same p m e
  rules_grown m (r ∷ rs) e (ok, oks) = let a = rule-grown m r e ok in then a (rules_grown (put_rule m r) rs a.stays oks)

pub many_rules : (m : Memo) (rs : List RuleDraft) → length (rules_of m rs) ≡ length rs
many_rules m [] = refl
many_rules m (r ∷ rs) = ap suc (many_rules (put_rule m r) rs)

-- the sheets are the book and the targets, laid out
pub laid : (d : Draft) → DraftOk d → ((put_down d).rules ≡ layout (book_of d)) × ((put_down d).targets ≡ layout (targets_of d))
unfolding layout
laid d ok =
    let N = length d.rules in
    let M = length d.targets in
    let a = number_grown parts.Rules (after_width d) N refl in
    let b = rules_grown parts.Rules (rules_memo d) d.rules a.stays ok.rules in
    let r = put_rules (rules_memo d) d.rules in
    let ab = then a b in
    let t0 = in_targets r in
    let c = extended parts.Targets t0 (r.width ∷ []) refl in
    let t1 = extend t0 (r.width ∷ []) in
    let e = extended parts.Targets t1 (M ∷ []) c.stays in
    let f = rules_grown parts.Targets (targets_memo d) d.targets e.stays ok.targets in
    let cef = then c (then e f) in
    let wide : r.width ≡ d.width = ab.width in
    let none : r.targets ≡ [] = ab.rests in
    let n = sym (many_rules (rules_memo d) d.rules) in
    let k = sym (many_rules (targets_memo d) d.targets) in (
      cef.rests ∙ ab.grows ∙ (λ i. d.width ∷ (n i ∷ flat_map layout_rule (rules_of (rules_memo d) d.rules))),
      cef.grows ∙ (λ i. none i ++ (wide i ∷ (k i ∷ flat_map layout_rule (rules_of (targets_memo d) d.targets)))),
    )
