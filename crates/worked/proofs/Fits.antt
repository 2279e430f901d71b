-- Well-formed rules, by a test that computes.
use Rattle.std.proofs.Common.{◌≡◌, ℕ, Bool, true, false, ◌&&◌, eqb, ltb, leb, ◌⊎◌, List, [], ◌∷◌, length, sym, refl, ap, ◌∙◌, inl, inr}
use mathlib.Core.List.Memᴰ
use Rattle.std.proofs.lemmas.Bool.{ltb-true, leb-true, eqb-true, false≢true, and_parts}
use Rattle.rules.specs.declared.term.Term.{Term}
use Rattle.rules.specs.declared.term.Term.TheVariants.{Constant, Variable}
use Rattle.rules.specs.declared.term.Kind.{Kind}
use Rattle.rules.specs.declared.term.Kind.TheVariants.{Functional, Equality}
use Rattle.rules.specs.Rules.{◌∈◌, Pattern, Rule}
use Rattle.rules.specs.Books.{BookMeaning, base, Small, Known, PairOf, LeftOf, WellFormed, WellFormedBook}
use Rattle.rules.specs.Doubled.{holds}
use Rattle.rules.proofs.Members.{member_holds}
use Rattle.law.specs.Groups.{symbols}
use Rattle.law.proofs.Shown.{symbol-stands}

abbrev pub every : {A : Type 0} → (A → Bool) → List A → Bool
every test [] = true
every test (x ∷ xs) = test x && every test xs

every-member : {A : Type 0} (test : A → Bool) (xs : List A) → every test xs ≡ true → (x : A) → x ∈ xs → test x ≡ true
every-member test [] e x m = elim m [ ]
every-member test (y ∷ ys) e x m =
    let k = and_parts (test y) (every test ys) e in
    go k.0 (Memᴰ.cases_cons m) (every-member test ys k.1 x)
  where
    go : test y ≡ true → (x ≡ y) ⊎ (x ∈ ys) → (x ∈ ys → test x ≡ true) → test x ≡ true
    go e (inl k) rest = ap test k ∙ e
    go e (inr k) rest = rest k

abbrev pub small_test : Term → Bool
small_test (Constant c) = ltb c base
small_test (Variable v) = ltb v 32

small_right : (x : Term) → small_test x ≡ true → Small x
small_right (Constant c) e = ltb-true c base e
small_right (Variable v) e = ltb-true v 32 e

abbrev pub stands_test : Pattern → ℕ → Bool
stands_test p v = holds (symbols p) v

abbrev pub known_test : Pattern → Term → Bool
known_test p (Constant c) = ltb c base
known_test p (Variable v) = stands_test p v

known-right : (p : Pattern) (x : Term) → known_test p x ≡ true → Known p x
known-right p (Constant c) e = ltb-true c base e
known-right p (Variable v) e = symbol-stands p v (member_holds (symbols p) v e)

abbrev pub pair_test : Kind → Term → Term → Bool
pair_test Equality x y = true
pair_test Functional (Constant c) y = false
pair_test Functional (Variable u) (Constant c) = false
pair_test Functional (Variable u) (Variable v) = eqb u v

pair_right : (k : Kind) (x y : Term) → pair_test k x y ≡ true → PairOf k (x, y)
pair_right Equality x y e = tt
pair_right Functional (Constant c) y e = absurd (false≢true e)
pair_right Functional (Variable u) (Constant c) e = absurd (false≢true e)
pair_right Functional (Variable u) (Variable v) e = (u, λ i. (Variable u, Variable (sym (eqb-true u v e) i)))

abbrev pub left_test : Kind → List ℕ → Bool
left_test Functional vs = true
left_test Equality [] = true
left_test Equality (v ∷ vs) = false

left_right : (k : Kind) (vs : List ℕ) → left_test k vs ≡ true → LeftOf k vs
left_right Functional vs e = tt
left_right Equality [] e = refl
left_right Equality (v ∷ vs) e = absurd (false≢true e)

abbrev pub fits_test : ℕ → Rule → Bool
fits_test w r =
    leb 1 (length r.pattern) && (leb (length r.pattern) 4 && (every (λ row. eqb (length row) w) r.pattern &&
    (every (λ row. every small_test row) r.pattern && (leb (length r.left) 32 && (left_test r.kind r.left &&
    (every (λ v. stands_test r.pattern v) r.left && (leb (length r.pairs) 32 &&
    (every (λ p. known_test r.pattern p.0 && known_test r.pattern p.1) r.pairs &&
    every (λ p. pair_test r.kind p.0 p.1) r.pairs))))))))

pub fits-right : (w : ℕ) (r : Rule) → fits_test w r ≡ true → WellFormed w r
fits-right w r e =
    let p = r.pattern in
    let k₁ = and_parts (leb 1 (length p)) _ e in
    let k₂ = and_parts (leb (length p) 4) _ k₁.1 in
    let k₃ = and_parts (every (λ row. eqb (length row) w) p) _ k₂.1 in
    let k₄ = and_parts (every (λ row. every small_test row) p) _ k₃.1 in
    let k₅ = and_parts (leb (length r.left) 32) _ k₄.1 in
    let k₆ = and_parts (left_test r.kind r.left) _ k₅.1 in
    let k₇ = and_parts (every (λ v. stands_test p v) r.left) _ k₆.1 in
    let k₈ = and_parts (leb (length r.pairs) 32) _ k₇.1 in
    let k₉ = and_parts (every (λ q. known_test p q.0 && known_test p q.1) r.pairs) _ k₈.1 in
    record {
      some_row = leb-true 1 (length p) k₁.0;
      few_rows = leb-true (length p) 4 k₂.0;
      of_width = λ row m. eqb-true (length row) w (every-member (λ row. eqb (length row) w) p k₃.0 row m);
      small = λ row m x n. small_right x (every-member small_test row (every-member (λ row. every small_test row) p k₄.0 row m) x n);
      few_left = leb-true (length r.left) 32 k₅.0;
      left_fits = left_right r.kind r.left k₆.0;
      left_stands = λ v m. symbol-stands p v (member_holds (symbols p) v (every-member (λ v. stands_test p v) r.left k₇.0 v m));
      few_pairs = leb-true (length r.pairs) 32 k₈.0;
      pairs_known = λ q m.
          let j = and_parts (known_test p q.0) (known_test p q.1) (every-member (λ q. known_test p q.0 && known_test p q.1) r.pairs k₉.0 q m) in
          (known-right p q.0 j.0, known-right p q.1 j.1);
      pairs_fit = λ q m. pair_right r.kind q.0 q.1 (every-member (λ q. pair_test r.kind q.0 q.1) r.pairs k₉.1 q m);
    }

abbrev pub book_test : BookMeaning → Bool
book_test b = leb 1 b.width && (leb b.width 8 && (leb (length b.rules) 1024 && every (fits_test b.width) b.rules))

pub book-right : (b : BookMeaning) → book_test b ≡ true → WellFormedBook b
book-right b e =
    let k₁ = and_parts (leb 1 b.width) _ e in
    let k₂ = and_parts (leb b.width 8) _ k₁.1 in
    let k₃ = and_parts (leb (length b.rules) 1024) _ k₂.1 in
    record {
      some_width = leb-true 1 b.width k₁.0;
      small_width = leb-true b.width 8 k₂.0;
      few = leb-true (length b.rules) 1024 k₃.0;
      rules_fit = λ r m. fits-right b.width r (every-member (fits_test b.width) b.rules k₃.1 r m);
    }
