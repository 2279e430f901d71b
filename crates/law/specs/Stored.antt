-- A state as a list of numbers, which a program can hold, and a merge as one pass over it.
use Rattle.std.specs.Prelude.{◌≡◌, ℕ, suc, ◌+◌, ◌<◌, ◌≤◌, min, max, cond, List, map, ◌==◌, slice_index}
use Rattle.rules.specs.declared.term.Term.{Term}
use Rattle.rules.specs.Rules.{◌∈◌, Pattern, Rule}
use Rattle.rules.specs.Books.{base, Stands, WellFormed}
use Rattle.law.specs.Groups.{Entry, State, Alone, current, group_count}
use Rattle.law.specs.Runs.{OpenSpot, Merge, Merges}

-- the list has what the symbols 0, 1, .. show as
abbrev pub stored : List ℕ → State
stored shown v = slice_index shown v

-- what was the one number is the other
abbrev pub replaced : ℕ → ℕ → List ℕ → List ℕ
replaced one other shown = map (λ n. cond (n == one) other n) shown

-- the rules are well formed, and every constant of the rows is below 16,777,216
pub record Held (width : ℕ) (rules : List Rule) (start : Pattern) : Type 0 where
  pub rules_fit : (r : Rule) → r ∈ rules → WellFormed width r
  pub entries : (row : List Term) → row ∈ start → (e : Term) → e ∈ row → Entry start e

-- each number of the list is a constant, or that of a symbol below 64
abbrev pub SmallNumbers : List ℕ → Type 0
SmallNumbers shown = (n : ℕ) → n ∈ shown → n < base + 64

pub record Storing : Type 0 where
  -- 64 numbers that begin at 16,777,216 are the state in which each symbol is alone
  pub first : (start : Pattern) → ((v : ℕ) → Stands v start → v < 64) → (shown : List ℕ) → ((v : ℕ) → v < 64 → slice_index shown v ≡ base + v) →
      Alone start (stored shown)
  -- one pass makes a merge
  pub pass : (rules : List Rule) (start : Pattern) (shown : List ℕ) (x y : ℕ) → OpenSpot rules (current start (stored shown)) x y →
      base ≤ max x y → Merge rules start (stored shown) (stored (replaced (max x y) (min x y) shown))
  -- it leaves one group less, of those that hold a symbol of the rows and no constant: so merging ends
  pub less : (width : ℕ) (rules : List Rule) (start : Pattern) → Held width rules start → (shown : List ℕ) (x y : ℕ) →
      OpenSpot rules (current start (stored shown)) x y → base ≤ max x y →
      group_count start (stored shown) ≡ suc (group_count start (stored (replaced (max x y) (min x y) shown)))
  -- from any state at most 64 merges are made
  pub few : (width : ℕ) (rules : List Rule) (start : Pattern) → Held width rules start → ((v : ℕ) → Stands v start → v < 64) →
      (s s' : State) (m : ℕ) → Merges rules start s s' m → m ≤ 64
  -- and a pass keeps the numbers small
  pub small : (width : ℕ) (rules : List Rule) (start : Pattern) → Held width rules start → (shown : List ℕ) (x y : ℕ) →
      OpenSpot rules (current start (stored shown)) x y → base ≤ max x y →
      SmallNumbers shown → SmallNumbers (replaced (max x y) (min x y) shown)
