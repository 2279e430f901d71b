-- The laws of rules.
use Rattle.std.specs.Prelude.{◌≡◌, ℕ, ◌↔◌, List, map}
use Rattle.rules.specs.declared.term.Term.{Term}
use Rattle.rules.specs.declared.term.Term.TheVariants.{Variable}
use Rattle.rules.specs.declared.term.Kind.TheVariants.{Functional, Equality}
use Rattle.rules.specs.Rules.{◌∈◌, Relation, Pattern, Valuation, at, Places, Keeps}

-- What 'keeps' comes to for each kind of rule.
pub record KeepingReads : Type 0 where
  -- any two placings that agree on each left variable agree on each right variable
  pub functional : (rel : Relation) (p : Pattern) (left right : List ℕ) →
      Keeps rel (record { kind = Functional; pattern = p; left = left; pairs = map (λ v. (Variable v, Variable v)) right }) ↔
      ((f g : Valuation) → Places f p rel → Places g p rel → ((v : ℕ) → v ∈ left → f v ≡ g v) → (v : ℕ) → v ∈ right → f v ≡ g v)
  -- each placing gives both terms of each pair one number
  pub equality : (rel : Relation) (p : Pattern) (left : List ℕ) (pairs : List (Term × Term)) →
      Keeps rel (record { kind = Equality; pattern = p; left = left; pairs = pairs }) ↔
      ((f : Valuation) → Places f p rel → (q : Term × Term) → q ∈ pairs → at f q.0 ≡ at f q.1)
