-- Open spots, merges and clashes (the steps of the field's chase), by a list of rules.
use Rattle.std.specs.Prelude.{◌≡◌, ℕ, suc, ◌<◌, ◌≤◌, min, max, Bool, true, false, cond, ◌≢◌, List, ◌==◌}
use Rattle.rules.specs.declared.term.Term.{Term}
use Rattle.rules.specs.Rules.{◌∈◌, Relation, Pattern, Valuation, at, Rule, Compares}
use Rattle.rules.specs.Books.{base, Stands}
use Rattle.law.specs.declared.outcome.Verdict.{Verdict}
use Rattle.law.specs.declared.outcome.Verdict.TheVariants.{Follows, Fails}
use Rattle.law.specs.Groups.{State, Alone, OneGroup, current}

-- an open spot of a relation: a placing, or two that agree on the left, by which it breaks one of the rules at a pair,
-- with the two numbers that differ there
pub record OpenSpot (rules : List Rule) (rel : Relation) (x y : ℕ) : Type 0 where
  pub rule : Rule
  pub listed : rule ∈ rules
  pub first : Valuation
  pub second : Valuation
  pub compared : Compares rel rule first second
  pub pair : Term × Term
  pub paired : pair ∈ rule.pairs
  pub left_is : at first pair.0 ≡ x
  pub right_is : at second pair.1 ≡ y
  pub differ : x ≢ y

-- The groups that show as x and y are one from now on. It shows as the lesser number: as its constant if it has one,
-- since constants are below all other numbers, or else as its least symbol.
abbrev pub Merged : Pattern → ℕ → ℕ → State → State → Type 0
Merged start x y s s' = (v : ℕ) → Stands v start → s' v ≡ cond (s v == max x y) (min x y) (s v)

-- one merge, at an open spot whose numbers are not both constants
pub record Merge (rules : List Rule) (start : Pattern) (s s' : State) : Type 0 where
  pub x : ℕ
  pub y : ℕ
  pub spot : OpenSpot rules (current start s) x y
  pub no_clash : base ≤ max x y
  pub merged : Merged start x y s s'

-- a clash: an open spot between two constants
pub record Clashing (rules : List Rule) (start : Pattern) (s : State) : Type 0 where
  pub x : ℕ
  pub y : ℕ
  pub spot : OpenSpot rules (current start s) x y
  pub constants : max x y < base

-- no open spot is left
abbrev pub AtRest : List Rule → Pattern → State → Type 0
AtRest rules start s = (x y : ℕ) → OpenSpot rules (current start s) x y → ⊥

-- m merges one after another, each at whichever open spot
pub data Merges (rules : List Rule) (start : Pattern) (s : State) : State → ℕ → Type 0 where
  none : Merges rules start s s 0
  more : {s' s'' : State} {m : ℕ} → Merges rules start s s' m → Merge rules start s' s'' → Merges rules start s s'' (suc m)

-- a run: merges from a state in which each starting symbol is alone
pub record Run (rules : List Rule) (start : Pattern) (s : State) (n : ℕ) : Type 0 where
  pub first : State
  pub alone : Alone start first
  pub merges : Merges rules start first s n

-- both sides of each pair show alike
abbrev pub Reached : List (Term × Term) → State → Type 0
Reached pairs s = (p : Term × Term) → p ∈ pairs → OneGroup s p.0 p.1

-- Merging has come to its end in this state: whether by a clash, and the verdict that is due. After a clash the target
-- follows, since nothing that keeps the rules has a placing of the starting rows.
pub data Ended (rules : List Rule) (start : Pattern) (pairs : List (Term × Term)) (s : State) : Bool → Verdict → Type 0 where
  clash_met : Clashing rules start s → Ended rules start pairs s true Follows
  pairs_met : AtRest rules start s → Reached pairs s → Ended rules start pairs s false Follows
  pairs_apart : AtRest rules start s → (Reached pairs s → ⊥) → Ended rules start pairs s false Fails
