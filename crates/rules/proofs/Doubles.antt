-- A rule and the equality rule on its doubled form say the same.
use Rattle.std.proofs.Common.{◌≡◌, ℕ, ◌+◌, ◌-◌, ◌≤◌, true, false, cond, ltb, ◌⊎◌, ◌↔◌, List, map, sym, refl, ap, ◌∙◌, inl, inr, arith}
use mathlib.Core.List.Memᴰ
use mathlib.Core.List.{map-map}
use Rattle.std.proofs.lemmas.Bool.{lt-ltb, le-ltb, cond-true, cond-false, cases_Bool}
use Rattle.rules.specs.declared.term.Term.{Term}
use Rattle.rules.specs.declared.term.Term.TheVariants.{Constant, Variable}
use Rattle.rules.specs.declared.term.Kind.{Kind}
use Rattle.rules.specs.declared.term.Kind.TheVariants.{Functional, Equality}
use Rattle.rules.specs.Rules.{◌∈◌, Relation, Pattern, Valuation, at, Places, Rule, Compares, Keeps}
use Rattle.rules.specs.Books.{Small, WellFormed, Known}
use Rattle.rules.specs.Doubled.{holds, copied, doubled_rows, doubled, Doubling}
use Rattle.rules.proofs.Members.{map_on, holds-member, member_holds}

pub at_same : (f g : Valuation) → ((v : ℕ) → f v ≡ g v) → (t : Term) → at f t ≡ at g t
at_same f g h (Constant c) = refl
at_same f g h (Variable v) = h v

-- the second placing that a valuation of the doubled rows gives
abbrev pub after : List ℕ → Valuation → Valuation
after left h v = h (cond (holds left v) v (32 + v))

pub at-copied : (left : List ℕ) (h : Valuation) (t : Term) → at h (copied left t) ≡ at (after left h) t
at-copied left h (Constant c) = refl
at-copied left h (Variable v) = refl

-- two placings as one valuation of the doubled rows
abbrev joint : Valuation → Valuation → Valuation
joint f g s = cond (ltb s 32) (f s) (g (s - 32))

joint-first : (f g : Valuation) (t : Term) → Small t → at (joint f g) t ≡ at f t
joint-first f g (Constant c) l = refl
joint-first f g (Variable v) l = cond-true (ltb v 32) (f v) (g (v - 32)) (lt-ltb v 32 l)

joint-copied : (left : List ℕ) (f g : Valuation) → ((v : ℕ) → v ∈ left → f v ≡ g v) →
    (t : Term) → Small t → at (joint f g) (copied left t) ≡ at g t
joint-copied left f g same (Constant c) l = refl
joint-copied left f g same (Variable v) l = go (cases_Bool (holds left v))
  where
    go : (holds left v ≡ true) ⊎ (holds left v ≡ false) → joint f g (cond (holds left v) v (32 + v)) ≡ g v
    go (inl e) = ap (joint f g) (cond-true (holds left v) v (32 + v) e) ∙ joint-first f g (Variable v) l ∙ same v (member_holds left v e)
    go (inr e) =
        let back : 32 + v - 32 ≡ v = omega arith in
        let far : 32 ≤ 32 + v = omega arith in
        ap (joint f g) (cond-false (holds left v) v (32 + v) e) ∙ cond-false (ltb (32 + v) 32) (f (32 + v)) (g (32 + v - 32)) (le-ltb (32 + v) 32 far) ∙ ap g back

-- a term that stands in a pattern of small terms, or a constant, is small
pub known_small : (p : Pattern) → ((row : List Term) → row ∈ p → (t : Term) → t ∈ row → Small t) → (t : Term) → Known p t → Small t
known_small p small (Constant c) k = k
known_small p small (Variable v) k = small k.0 k.1 (Variable v) k.2

module _ (w : ℕ) (pattern : Pattern) (left : List ℕ) (pairs : List (Term × Term)) (rel : Relation) where
  abbrev functional : Rule
  functional = record { kind = Functional; pattern = pattern; left = left; pairs = pairs }

  abbrev equality : Rule
  equality = record { kind = Equality; pattern = pattern; left = left; pairs = pairs }

  to : Keeps rel functional → Keeps rel (doubled functional)
  to keeps h h' c p m =
      let q = Memᴰ.of_map (λ (p : Term × Term). (p.0, copied left p.1)) pairs m in
      let e : at h q.0.0 ≡ at (after left h) q.0.1 = keeps h (after left h) compared q.0 q.1 in
      sym (ap (λ (p : Term × Term). at h p.0) q.2) ∙ e ∙ sym (at-copied left h q.0.1) ∙ ap (λ (p : Term × Term). at h p.1) q.2 ∙ at_same h h' c.agree p.1
    where
      placed : Places (after left h) pattern rel
      placed row n =
          Memᴰ.cast (map_on (at (after left h)) (λ t. at h (copied left t)) row (λ t k. sym (at-copied left h t)) ∙ sym (map-map (at h) (copied left) row))
          (c.first (map (copied left) row) (Memᴰ.append_right pattern (Memᴰ.map (map (copied left)) n)))

      alike : (v : ℕ) → v ∈ left → h v ≡ after left h v
      alike v n = sym (ap h (cond-true (holds left v) v (32 + v) (holds-member left v n)))

      compared : Compares rel functional h (after left h)
      compared = record { first = λ row n. c.first row (Memᴰ.append_left (map (map (copied left)) pattern) n); second = placed; agree = alike }

  from : WellFormed w functional → Keeps rel (doubled functional) → Keeps rel functional
  from fit keeps f g c p m =
      let k = fit.pairs_known p m in
      let e = keeps h h compared (p.0, copied left p.1) (Memᴰ.map (λ (p : Term × Term). (p.0, copied left p.1)) m) in
      sym (joint-first f g p.0 (known_small pattern fit.small p.0 k.0)) ∙ e ∙
      joint-copied left f g c.agree p.1 (known_small pattern fit.small p.1 k.1)
    where
      h : Valuation
      h = joint f g

      once : (row : List Term) → row ∈ pattern → map (at h) row ∈ rel
      once row n = Memᴰ.cast (map_on (at h) (at f) row (λ t k. joint-first f g t (fit.small row n t k))) (c.first row n)

      again : (row : List Term) → row ∈ map (map (copied left)) pattern → map (at h) row ∈ rel
      again row n =
          let q = Memᴰ.of_map (map (copied left)) pattern n in
          Memᴰ.cast
          (sym (ap (map (at h)) q.2) ∙ map-map (at h) (copied left) q.0 ∙
          map_on (λ t. at h (copied left t)) (at g) q.0 (λ t k. joint-copied left f g c.agree t (fit.small q.0 q.1 t k)))
          (c.second q.0 q.1)

      placed : Places h (doubled_rows functional) rel
      placed row n = elim (Memᴰ.append_cases pattern n) [ inl k ↦ once row k | inr k ↦ again row k ]

      compared : Compares rel (doubled functional) h h
      compared = record { first = placed; second = placed; agree = λ v. refl }

  same_to : Keeps rel equality → Keeps rel (doubled equality)
  same_to keeps f g c = keeps f g (record { first = c.first; second = c.second; agree = c.agree })

  same_from : Keeps rel (doubled equality) → Keeps rel equality
  same_from keeps f g c = keeps f g (record { first = c.first; second = c.second; agree = c.agree })

doubling_as : (k : Kind) (w : ℕ) (pattern : Pattern) (left : List ℕ) (pairs : List (Term × Term)) →
    WellFormed w (record { kind = k; pattern = pattern; left = left; pairs = pairs }) → (rel : Relation) →
    Keeps rel (record { kind = k; pattern = pattern; left = left; pairs = pairs }) ↔
    Keeps rel (doubled (record { kind = k; pattern = pattern; left = left; pairs = pairs }))
doubling_as Functional w pattern left pairs fit rel = (to w pattern left pairs rel, from w pattern left pairs rel fit)
doubling_as Equality w pattern left pairs fit rel = (same_to w pattern left pairs rel, same_from w pattern left pairs rel)

pub doubling : Doubling
doubling w r fit rel = doubling_as r.kind w r.pattern r.left r.pairs fit rel
