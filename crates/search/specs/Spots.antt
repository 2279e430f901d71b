-- A break of a rule, by the rows of the relation where it stands.
use Rattle.std.specs.Prelude.{◌≡◌, ℕ, ◌+◌, ◌%◌, ◌<◌, ◌≤◌, List, map, length, Some, Option, MatchOption, slice_index}
use Rattle.std.specs.List.{slice_get}
use Rattle.rules.specs.declared.term.Term.{Term}
use Rattle.rules.specs.declared.term.Kind.{Kind}
use Rattle.rules.specs.declared.term.Kind.TheVariants.{Functional, Equality}
use Rattle.rules.specs.Rules.{Relation, Pattern, Valuation, Rule, at, Compares, Keeps}
use Rattle.search.specs.declared.spot.Spot.{Spot}

-- f sends row i of the pattern to the row of the relation that place `from` + i names
abbrev pub Sends : Valuation → Relation → Pattern → List ℕ → ℕ → Type 0
Sends f rel p places from = (i : ℕ) (row : List Term) → slice_get p i ≡ Some row → slice_get rel (slice_index places (from + i)) ≡ Some (map (at f) row)

-- where the second placing's rows begin: after those of the first, or with them where there is one placing
abbrev pub second_from : Kind → ℕ → ℕ
second_from Functional n = n
second_from Equality n = 0

-- how many places name a row
abbrev pub used : Kind → ℕ → ℕ
used Functional n = n + n
used Equality n = n

-- two placings that the rule compares, by the rows that they go to, and a pair whose two sides get two numbers
pub record Break (rel : Relation) (r : Rule) (s : Spot) : Type 0 where
  pub f : Valuation
  pub g : Valuation
  pub compares : Compares rel r f g
  pub first_rows : Sends f rel r.pattern s.places 0
  pub second_rows : Sends g rel r.pattern s.places (second_from r.kind (length r.pattern))
  pub unused : (i : ℕ) → used r.kind (length r.pattern) ≤ i → slice_index s.places i ≡ 0
  pub sides : Term × Term
  pub pair : slice_get r.pairs s.pair ≡ Some sides
  pub on_first : at f sides.0 ≡ s.one
  pub on_second : at g sides.1 ≡ s.other
  pub differ : s.one ≡ s.other → ⊥

-- what a look at a rule of this number says
abbrev pub Looked : Relation → Rule → ℕ → Option Spot → Type 0
Looked rel r i o = MatchOption o (Keeps rel r) (λ s. Break rel r s × (s.rule ≡ i))

-- the rule of this number, if there is one
abbrev pub LookedAt : Relation → List Rule → ℕ → Option Spot → Type 0
LookedAt rel rules i o = (r : Rule) → slice_get rules i ≡ Some r → Looked rel r i o

-- the rule of turn t, where the first to look at is rule `first`, going round past the last of n
abbrev pub turned : ℕ → ℕ → ℕ → ℕ
turned n first t = (first + t) % n

-- a break of rule number `rule`, whose turn comes
pub record Found (rel : Relation) (rules : List Rule) (first turns : ℕ) (s : Spot) : Type 0 where
  pub turn : ℕ
  pub in_turn : turn < turns
  pub its_turn : s.rule ≡ turned (length rules) first turn
  pub broken : Rule
  pub there : slice_get rules s.rule ≡ Some broken
  pub break : Break rel broken s

-- the relation keeps each rule whose turn comes
abbrev pub Quiet : Relation → List Rule → ℕ → ℕ → Type 0
Quiet rel rules first turns = (t : ℕ) → t < turns → (r : Rule) → slice_get rules (turned (length rules) first t) ≡ Some r → Keeps rel r
