-- A draft that may be written means books that sheets can hold.
use Rattle.std.proofs.Common.{◌≡◌, ℕ, ◌+◌, ◌<◌, ◌≤◌, Bool, true, false, cond, not, ◌||◌, List, [], ◌∷◌, ◌++◌, map, length, sym, refl, ap, ◌∙◌, subst, arith}
use mathlib.Core.List.Memᴰ
use lib.ListN.{length-map}
use Rattle.std.specs.List.{AllByRecursion}
use Rattle.std.proofs.lemmas.Bool.{and_parts, ltb-true}
use Rattle.text.specs.Words.{Word, is_variable}
use Rattle.rules.specs.Rules.{◌∈◌, Pattern, Rule}
use Rattle.rules.specs.Books.{base, Small, Stands, Known, PairOf, LeftOf, WellFormed}
use Rattle.rules.specs.declared.term.Kind.{Kind}
use Rattle.rules.specs.declared.term.Kind.TheVariants.{Functional, Equality}
use Rattle.rules.specs.declared.term.Term.{Term}
use Rattle.rules.specs.declared.term.Term.TheVariants.{Constant, Variable}
use Rattle.sheets.specs.Layout.{kind_word}
use Rattle.sheets.specs.Laws.{Fitting}
use Rattle.reader.specs.declared.desk.Counting.TheVariants as counting
use Rattle.reader.specs.declared.desk.Entry.TheVariants as entries
use Rattle.reader.specs.Format.{Memo, number_of, seen_in, fits, all_variables, all_known, with_vars, with_names}
use Rattle.spelling.specs.Draft.{RuleDraft, Draft, add, extend, put, puts, puts_all, put_number, put_list, put_lists, after_rows, put_rule, put_rules, rules_memo, targets_memo, put_down, LinesOk, ListsOk, RuleOk, RulesOk, DraftOk}
use Rattle.spelling.specs.Book.{term_in, row_terms, pattern_of, numbers_of, pair_of, pairs_in, twice, left_of, pairs_of, rule_of, rules_of, book_of, targets_of}
use Rattle.spelling.proofs.Facts.{all_mem, ext_names, ext_vars, ext_width, number_below, puts-facts, rows-facts, known-vars, line_vars}
use Rattle.spelling.proofs.Laid.{many_rows, many_rules, variables-laid, pairs_laid}

all_append : {X : Type 0} (P : X → Type 0) (xs ys : List X) → AllByRecursion P xs → AllByRecursion P ys → AllByRecursion P (xs ++ ys)
all_append P [] ys a b = b
all_append P (x ∷ xs) ys a b = (a.0, all_append P xs ys a.1 b)

seen_of : (t s : Bool) → t ≡ true → (not t || s) ≡ true → s ≡ true
seen_of true s e h = h
seen_of false s e h = let z : ◌≡◌ {A = ℕ} 0 1 = cc in absurd (omega arith)

line_numbers : (vars : List Word) (ws : List Word) → all_known vars ws ≡ true → all_variables ws ≡ true → AllByRecursion (λ v. v < length vars) (map (number_of vars) ws)
line_numbers vars [] h k = tt
line_numbers vars (w ∷ ws) h k =
    let p = and_parts (not (is_variable w.bytes) || seen_in vars w) (all_known vars ws) h in
    let q = and_parts (is_variable w.bytes) (all_variables ws) k in
    (ltb-true (number_of vars w) (length vars) (seen_of (is_variable w.bytes) (seen_in vars w) q.0 p.0), line_numbers vars ws p.1 q.1)

-- a list of variables: all in the rows, and no new one
record Listed (m n : Memo) (vs : List ℕ) : Type 0 where
  known : AllByRecursion (λ v. v < length m.vars) vs
  vars : n.vars ≡ m.vars
  names : length m.names ≤ length n.names
  width : n.width ≡ m.width

listed : (m : Memo) (xs : List (List Word)) → LinesOk entries.Variable m xs → Listed m (puts_all m xs) (numbers_of m xs)
listed m [] h = record { known = tt; vars = refl; names = omega arith; width = refl }
listed m (ws ∷ xs) h =
    let k = puts m ws in
    let e = line_vars m ws h.1 in
    let f = puts-facts m ws in
    let b = listed k xs h.2 in
    let a = line_numbers m.vars ws h.1 (and_parts (fits 1 ws) (all_variables ws) h.0).1 in
    record {
      known = all_append (λ v. v < length m.vars) (map (number_of m.vars) ws) (numbers_of k xs) a (subst (λ vs. AllByRecursion (λ v. v < length vs) (numbers_of k xs)) e b.known);
      vars = b.vars ∙ e;
      names = (let x = f.names in let y = b.names in omega arith);
      width = b.width ∙ f.width;
    }

-- a term that a pair may have, where so many variables are known
abbrev Okay : ℕ → Term → Type 0
Okay L (Constant c) = c < base
Okay L (Variable v) = v < L

term_okay : (m : Memo) (w : Word) (N : ℕ) → (not (is_variable w.bytes) || seen_in m.vars w) ≡ true → N < base → length (put m w).names ≤ N → Okay (length m.vars) (term_in m w)
term_okay m w N h small le = by (is_variable w.bytes) refl h
  where
    by : (t : Bool) → is_variable w.bytes ≡ t → (not t || seen_in m.vars w) ≡ true → Okay (length m.vars) (cond t (Variable (number_of m.vars w)) (Constant (number_of m.names w)))
    by true e h = ltb-true (number_of m.vars w) (length m.vars) h
    by false e h =
        let xs = (base + number_of m.vars w) ∷ [] in
        let ys = number_of m.names w ∷ [] in
        let mv = with_vars m (add m.vars w) in
        let mn = with_names m (add m.names w) in
        let n = ap length (ap (λ t. (cond t (extend mv xs) (extend mn ys)).names) e ∙ ext_names mn ys m.part) in
        let b = number_below m.names w in
        omega arith

terms_okay : (m : Memo) (ws : List Word) (N : ℕ) → all_known m.vars ws ≡ true → N < base → length (puts m ws).names ≤ N → AllByRecursion (Okay (length m.vars)) (row_terms m ws)
terms_okay m [] N h small le = tt
terms_okay m (w ∷ ws) N h small le =
    let p = and_parts (not (is_variable w.bytes) || seen_in m.vars w) (all_known m.vars ws) h in
    let e = known-vars m w p.0 in
    let f = puts-facts (put m w) ws in
    (term_okay m w N p.0 small (let x = f.names in omega arith), subst (λ vs. AllByRecursion (Okay (length vs)) (row_terms (put m w) ws)) e (terms_okay (put m w) ws N (subst (λ vs. all_known vs ws ≡ true) (sym e) p.1) small le))

pair_okay : (L : ℕ) (ts : List Term) → AllByRecursion (Okay L) ts → Okay L (pair_of ts).0 × Okay L (pair_of ts).1
pair_okay L [] h = (omega arith, omega arith)
pair_okay L (a ∷ []) h = (h.0, h.0)
pair_okay L (a ∷ b ∷ ts) h = (h.0, h.1.0)

abbrev Both : ℕ → Term × Term → Type 0
Both L p = Okay L p.0 × Okay L p.1

-- pairs of terms: all in range or in the rows
record Paired (m n : Memo) (ps : List (Term × Term)) : Type 0 where
  known : (N : ℕ) → N < base → length n.names ≤ N → AllByRecursion (Both (length m.vars)) ps
  names : length m.names ≤ length n.names
  width : n.width ≡ m.width

paired : (m : Memo) (xs : List (List Word)) → LinesOk entries.Pair m xs → Paired m (puts_all m xs) (pairs_in m xs)
paired m [] h = record { known = λ N s l. tt; names = omega arith; width = refl }
paired m (ws ∷ xs) h =
    let k = puts m ws in
    let e = line_vars m ws h.1 in
    let f = puts-facts m ws in
    let b = paired k xs h.2 in
    let x = f.names in
    let y = b.names in
    record {
      known = λ N s l. (pair_okay (length m.vars) (row_terms m ws) (terms_okay m ws N h.1 s (omega arith)), subst (λ vs. AllByRecursion (Both (length vs)) (pairs_in k xs)) e (b.known N s l));
      names = omega arith;
      width = b.width ∙ f.width;
    }

-- from terms in range to terms of the pattern
known-term : (L : ℕ) (p : Pattern) → ((v : ℕ) → v < L → Stands v p) → (t : Term) → Okay L t → Known p t
known-term L p h (Constant c) k = k
known-term L p h (Variable v) k = h v k

-- what a rule's lists come to, where the rows have L variables
record Fine (k : Kind) (L : ℕ) (r : Rule) : Type 0 where
  left : AllByRecursion (λ v. v < L) r.left
  few_left : length r.left ≤ 32
  left_fits : LeftOf k r.left
  pairs : AllByRecursion (Both L) r.pairs
  few_pairs : length r.pairs ≤ 32
  pairs_fit : (p : Term × Term) → p ∈ r.pairs → PairOf k p

twice_both : (L : ℕ) (vs : List ℕ) → AllByRecursion (λ v. v < L) vs → AllByRecursion (Both L) (map twice vs)
twice_both L [] h = tt
twice_both L (v ∷ vs) h = ((h.0, h.0), twice_both L vs h.1)

record ListsFine (k : Kind) (m n : Memo) (r : RuleDraft) (pattern : Pattern) : Type 0 where
  names : length m.names ≤ length n.names
  width : n.width ≡ m.width
  fine : (N : ℕ) → N < base → length n.names ≤ N → Fine k (length m.vars) (record { kind = k; pattern = pattern; left = left_of k m r; pairs = pairs_of k m r })

lists_fine : (k : Kind) (m : Memo) (r : RuleDraft) (pattern : Pattern) → ListsOk k m r → ListsFine k m (put_lists k m r) r pattern
lists_fine Functional m r pattern (lok, rok) =
    let xs = length r.left ∷ [] in
    let ys = length r.pairs ∷ [] in
    let m3 = put_number m (length r.left) counting.Left in
    let a = listed m3 r.left lok.lines in
    let m4 = put_list counting.Left m r.left in
    let m5 = put_number m4 (length r.pairs) counting.Right in
    let b = listed m5 r.pairs rok.lines in
    let v3 = ext_vars m xs m.part in
    let v5 = ext_vars m4 ys m4.part ∙ a.vars ∙ v3 in
    let n3 = ap length (ext_names m xs m.part) in
    let n5 = ap length (ext_names m4 ys m4.part) in
    let w3 = ext_width m xs m.part in
    let w5 = ext_width m4 ys m4.part in
    let an = a.names in
    let bn = b.names in
    let ll = (variables-laid m3 r.left lok.lines).1 in
    let vs = numbers_of m5 r.pairs in
    let lp = length-map vs twice ∙ (variables-laid m5 r.pairs rok.lines).1 in
    let lh = lok.high in
    let rh = rok.high in
    record {
      names = omega arith;
      width = b.width ∙ w5 ∙ a.width ∙ w3;
      fine = λ N s l. record {
        left = subst (λ vs. AllByRecursion (λ v. v < length vs) (numbers_of m3 r.left)) v3 a.known;
        few_left = omega arith;
        left_fits = tt;
        pairs = twice_both (length m.vars) vs (subst (λ us. AllByRecursion (λ v. v < length us) vs) v5 b.known);
        few_pairs = omega arith;
        pairs_fit = λ p q. let o = Memᴰ.of_map twice vs q in (o.0, sym o.2);
      };
    }
lists_fine Equality m r pattern ok =
    let m0 = extend m (0 ∷ []) in
    let ys = length r.pairs ∷ [] in
    let m5 = put_number m (length r.pairs) counting.Pairs in
    let b = paired m5 r.pairs ok.lines in
    let v5 = ext_vars m0 ys m0.part ∙ ext_vars m (0 ∷ []) m.part in
    let n5 = ap length (ext_names m0 ys m0.part ∙ ext_names m (0 ∷ []) m.part) in
    let w5 = ext_width m0 ys m0.part ∙ ext_width m (0 ∷ []) m.part in
    let bn = b.names in
    let lp = (pairs_laid m5 r.pairs ok.lines).1 in
    let rh = ok.high in
    record {
      names = omega arith;
      width = b.width ∙ w5;
      fine = λ N s l. record {
        left = tt;
        few_left = omega arith;
        left_fits = refl;
        pairs = subst (λ us. AllByRecursion (Both (length us)) (pairs_in m5 r.pairs)) v5 (b.known N s l);
        few_pairs = omega arith;
        pairs_fit = λ p q. tt;
      };
    }

record RuleFine (m n : Memo) (r : Rule) : Type 0 where
  names : length m.names ≤ length n.names
  width : n.width ≡ m.width
  fits : (N : ℕ) → N < base → length n.names ≤ N → WellFormed m.width r

rule-fine : (m : Memo) (r : RuleDraft) → m.width ≤ 8 → RuleOk m r → RuleFine m (put_rule m r) (rule_of m r)
rule-fine m r narrow ok =
    let ks = kind_word r.kind ∷ [] in
    let m0 = extend m ks in
    let xs = length r.rows ∷ [] in
    let m1 = put_number m0 (length r.rows) counting.Rows in
    let w1 = ext_width (with_vars m0 []) xs m0.part ∙ ext_width m ks m.part in
    let n1 = ap length (ext_names (with_vars m0 []) xs m0.part ∙ ext_names m ks m.part) in
    let v1 = ap length (ext_vars (with_vars m0 []) xs m0.part) in
    let m2 = after_rows m r in
    let a = rows-facts m1 r.rows (omega arith) ok.rows.lines in
    let pattern = pattern_of m1 r.rows in
    let b = lists_fine r.kind m2 r pattern ok.lists in
    let many = many_rows m1 r.rows in
    let lo = ok.rows.low in
    let hi = ok.rows.high in
    let an = a.names in
    let av = a.few in
    let bn = b.names in
    let stands : (v : ℕ) → v < length m2.vars → Stands v pattern = λ v h. a.new v (omega arith) h in
    record {
      names = omega arith;
      width = b.width ∙ a.width ∙ w1;
      fits = λ N s l.
          let f = b.fine N s l in
          let t = a.small N s (omega arith) (omega arith) in
          record {
            some_row = omega arith;
            few_rows = omega arith;
            of_width = all_mem (λ row. length row ≡ m.width) pattern (subst (λ W. AllByRecursion (λ row. length row ≡ W) pattern) w1 a.long);
            small = λ row q x k. all_mem Small row (all_mem (AllByRecursion Small) pattern t row q) x k;
            few_left = f.few_left;
            left_fits = f.left_fits;
            left_stands = λ v q. stands v (all_mem (λ u. u < length m2.vars) (left_of r.kind m2 r) f.left v q);
            few_pairs = f.few_pairs;
            pairs_known = λ p q. let both = all_mem (Both (length m2.vars)) (pairs_of r.kind m2 r) f.pairs p q in (known-term (length m2.vars) pattern stands p.0 both.0, known-term (length m2.vars) pattern stands p.1 both.1);
            pairs_fit = f.pairs_fit;
          };
    }

record RulesFine (m n : Memo) (rs : List Rule) : Type 0 where
  names : length m.names ≤ length n.names
  width : n.width ≡ m.width
  fits : (N : ℕ) → N < base → length n.names ≤ N → AllByRecursion (WellFormed m.width) rs

rules_fine : (m : Memo) (rs : List RuleDraft) → m.width ≤ 8 → RulesOk m rs → RulesFine m (put_rules m rs) (rules_of m rs)
rules_fine m [] narrow ok = record { names = omega arith; width = refl; fits = λ N s l. tt }
rules_fine m (r ∷ rs) narrow (ok, oks) =
    let a = rule-fine m r narrow ok in
    let k = put_rule m r in
    let aw = a.width in
    let b = rules_fine k rs (omega arith) oks in
    let an = a.names in
    let bn = b.names in
    record {
      names = omega arith;
      width = b.width ∙ aw;
      fits = λ N s l. (a.fits N s (omega arith), subst (λ W. AllByRecursion (WellFormed W) (rules_of k rs)) aw (b.fits N s l));
    }

fitting_from : (W : ℕ) (rs : List Rule) → 1 ≤ W → W ≤ 8 → length rs ≤ 256 → AllByRecursion (WellFormed W) rs → Fitting (record { width = W; rules = rs })
fitting_from W rs lo hi few h = record { well = record { some_width = lo; small_width = hi; few = omega arith; rules_fit = all_mem (WellFormed W) rs h }; few = few }

pub fitting : (d : Draft) → DraftOk d → length (put_down d).names < base → Fitting (book_of d) × Fitting (targets_of d)
fitting d ok small =
    let mr = rules_memo d in
    let a = rules_fine mr d.rules ok.small_width ok.rules in
    let r = put_rules mr d.rules in
    let mt = targets_memo d in
    let wt : mt.width ≡ d.width = a.width in
    let b = rules_fine mt d.targets (omega arith) ok.targets in
    let an = a.names in
    let bn = b.names in
    let N = length (put_down d).names in
    let nr = many_rules mr d.rules in
    let nt = many_rules mt d.targets in
    let fr = ok.few_rules in
    let ft = ok.few_targets in (
      fitting_from d.width (rules_of mr d.rules) ok.some_width ok.small_width (omega arith) (a.fits N small (omega arith)),
      fitting_from d.width (rules_of mt d.targets) ok.some_width ok.small_width (omega arith) (subst (λ W. AllByRecursion (WellFormed W) (rules_of mt d.targets)) wt (b.fits N small (omega arith))),
    )
