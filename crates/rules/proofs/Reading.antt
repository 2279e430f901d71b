-- What 'keeps' comes to for each kind of rule.
use Rattle.std.proofs.Common.{◌≡◌, ℕ, ◌↔◌, List, map, sym, refl, ap, ◌∙◌}
use mathlib.Core.List.Memᴰ
use Rattle.rules.specs.declared.term.Term.{Term}
use Rattle.rules.specs.declared.term.Term.TheVariants.{Variable}
use Rattle.rules.specs.declared.term.Kind.TheVariants.{Functional, Equality}
use Rattle.rules.specs.Rules.{◌∈◌, Relation, Pattern, Valuation, at, Places, Keeps}
use Rattle.rules.specs.Laws.{KeepingReads}
use Rattle.rules.proofs.Doubles.{at_same}

abbrev twice : ℕ → Term × Term
twice v = (Variable v, Variable v)

equality : (rel : Relation) (p : Pattern) (left : List ℕ) (pairs : List (Term × Term)) →
    Keeps rel (record { kind = Equality; pattern = p; left = left; pairs = pairs }) ↔
    ((f : Valuation) → Places f p rel → (q : Term × Term) → q ∈ pairs → at f q.0 ≡ at f q.1)
equality rel p left pairs = (
  λ keeps f h q m. keeps f f (record { first = h; second = h; agree = λ v. refl }) q m,
  λ keeps f g c q m. keeps f c.first q m ∙ at_same f g c.agree q.1,
)

functional : (rel : Relation) (p : Pattern) (left right : List ℕ) →
    Keeps rel (record { kind = Functional; pattern = p; left = left; pairs = map twice right }) ↔
    ((f g : Valuation) → Places f p rel → Places g p rel → ((v : ℕ) → v ∈ left → f v ≡ g v) → (v : ℕ) → v ∈ right → f v ≡ g v)
functional rel p left right = (
  λ keeps f g h k same v m. keeps f g (record { first = h; second = k; agree = same }) (twice v) (Memᴰ.map twice m),
  λ keeps f g c q m.
      let w = Memᴰ.of_map twice right m in
      sym (ap (λ (x : Term × Term). at f x.0) w.2) ∙ keeps f g c.first c.second c.agree w.0 w.1 ∙ ap (λ (x : Term × Term). at g x.1) w.2,
)

pub reading : KeepingReads
reading = record { functional = functional; equality = equality }
