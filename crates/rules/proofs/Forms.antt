-- Rules and their doubled forms may be searched for.
use Rattle.std.proofs.Common.{◌≡◌, ℕ, ◌+◌, ◌<◌, ◌≤◌, true, false, cond, ◌⊎◌, List, ◌++◌, map, length, sym, ap, ◌∙◌, subst, inl, inr, arith}
use mathlib.Core.List.Memᴰ
use Rattle.std.proofs.lemmas.List.{length-map, length-append}
use Rattle.std.proofs.lemmas.Bool.{cond-true, cond-false, cases_Bool}
use Rattle.rules.specs.declared.term.Term.{Term}
use Rattle.rules.specs.declared.term.Term.TheVariants.{Constant, Variable}
use Rattle.rules.specs.declared.term.Kind.{Kind}
use Rattle.rules.specs.declared.term.Kind.TheVariants.{Functional, Equality}
use Rattle.rules.specs.Rules.{◌∈◌, Pattern, Rule}
use Rattle.rules.specs.Books.{WellFormed, Known, Small}
use Rattle.rules.specs.Doubled.{holds, copied, doubled}
use Rattle.rules.specs.Loaded.{Form, Symbolic}

small_symbolic : (t : Term) → Small t → Symbolic t
small_symbolic (Constant c) s = s
small_symbolic (Variable v) s = omega arith

copied-symbolic : (left : List ℕ) (t : Term) → Small t → Symbolic (copied left t)
copied-symbolic left (Constant c) s = s
copied-symbolic left (Variable v) s = go (cases_Bool (holds left v))
  where
    go : (holds left v ≡ true) ⊎ (holds left v ≡ false) → cond (holds left v) v (32 + v) < 64
    go (inl e) = subst (λ x. x < 64) (sym (cond-true (holds left v) v (32 + v) e)) (omega arith)
    go (inr e) = subst (λ x. x < 64) (sym (cond-false (holds left v) v (32 + v) e)) (omega arith)

known-first : (p q : Pattern) (t : Term) → Known p t → Known (p ++ q) t
known-first p q (Constant c) k = k
known-first p q (Variable v) (row, m, n) = (row, Memᴰ.append_left q m, n)

known-second : (left : List ℕ) (p : Pattern) (t : Term) → Known p t → Known (p ++ map (map (copied left)) p) (copied left t)
known-second left p (Constant c) k = k
known-second left p (Variable v) (row, m, n) = (map (copied left) row, Memᴰ.append_right p (Memᴰ.map (map (copied left)) m), Memᴰ.map (copied left) n)

pub form_of : (w : ℕ) (r : Rule) → w ≤ 8 → WellFormed w r → Form w r
form_of w r small fit = record {
  some_row = fit.some_row;
  few_rows = let few = fit.few_rows in omega arith;
  small_width = small;
  of_width = fit.of_width;
  small = λ row m t n. small_symbolic t (fit.small row m t n);
  few_pairs = fit.few_pairs;
  pairs_known = fit.pairs_known;
}

abbrev copied_pair : List ℕ → Term × Term → Term × Term
copied_pair left p = (p.0, copied left p.1)

module _ (w : ℕ) (pattern : Pattern) (left : List ℕ) (pairs : List (Term × Term)) (small : w ≤ 8) where
  abbrev rule : Kind → Rule
  rule k = record { kind = k; pattern = pattern; left = left; pairs = pairs }

  abbrev twice : Pattern
  twice = pattern ++ map (map (copied left)) pattern

  module _ (fit : WellFormed w (rule Functional)) where
    rows : length twice ≡ length pattern + length pattern
    rows = length-append pattern (map (map (copied left)) pattern) ∙ ap (λ n. length pattern + n) (length-map pattern (map (copied left)))

    wide : (row : List Term) → row ∈ pattern ⊎ (row ∈ map (map (copied left)) pattern) → length row ≡ w
    wide row (inl m) = fit.of_width row m
    wide row (inr m) =
        let (old, n, e) = Memᴰ.of_map (map (copied left)) pattern m in
        sym (ap length e) ∙ length-map old (copied left) ∙ fit.of_width old n

    symbols : (row : List Term) → row ∈ pattern ⊎ (row ∈ map (map (copied left)) pattern) → (t : Term) → t ∈ row → Symbolic t
    symbols row (inl m) t n = small_symbolic t (fit.small row m t n)
    symbols row (inr m) t n =
        let (old, k, e) = Memᴰ.of_map (map (copied left)) pattern m in
        let (u, h, is) = Memᴰ.of_map (copied left) old (subst (λ x. t ∈ x) (sym e) n) in
        subst Symbolic is (copied-symbolic left u (fit.small old k u h))

    known : (p : Term × Term) → p ∈ map (copied_pair left) pairs → Known twice p.0 × Known twice p.1
    known p m =
        let (q, n, e) = Memᴰ.of_map (copied_pair left) pairs m in
        let (a, b) = fit.pairs_known q n in
        subst (λ (x : Term × Term). Known twice x.0 × Known twice x.1) e (known-first pattern (map (map (copied left)) pattern) q.0 a, known-second left pattern q.1 b)

    functional : Form w (doubled (rule Functional))
    functional = record {
      some_row = let some = fit.some_row in omega (arith, rows);
      few_rows = let few = fit.few_rows in omega (arith, rows);
      small_width = small;
      of_width = λ row m. wide row (Memᴰ.append_cases pattern m);
      small = λ row m. symbols row (Memᴰ.append_cases pattern m);
      few_pairs = subst (λ n. n ≤ 32) (sym (length-map pairs (copied_pair left))) fit.few_pairs;
      pairs_known = known;
    }

  equality : WellFormed w (rule Equality) → Form w (doubled (rule Equality))
  equality fit = record {
    some_row = fit.some_row;
    few_rows = let few = fit.few_rows in omega arith;
    small_width = small;
    of_width = fit.of_width;
    small = λ row m t n. small_symbolic t (fit.small row m t n);
    few_pairs = fit.few_pairs;
    pairs_known = fit.pairs_known;
  }

  form_as : (k : Kind) → WellFormed w (rule k) → Form w (doubled (rule k))
  form_as Functional fit = functional fit
  form_as Equality fit = equality fit

pub form_doubled : (w : ℕ) (r : Rule) → w ≤ 8 → WellFormed w r → Form w (doubled r)
form_doubled w r small fit = form_as w r.pattern r.left r.pairs small r.kind fit
