-- The laws of key lists.
use Rattle.std.specs.Prelude.{◌≡◌, ℕ, ◌+◌, ◌*◌, ◌<◌, ◌⊎◌, ◌↔◌, List, [], length, Some, slice_index}
use Rattle.std.specs.List.{slice_get}
use Rattle.rules.specs.Rules.{◌∈◌, Relation, OfWidth, Rule, Keeps}
use Rattle.rules.specs.Books.{BookMeaning}
use Rattle.keys.specs.Keys.{HasBit, SoundKeys, keys_meaning}
use Rattle.keys.specs.Faults.{FirstFault}

-- two rows agree in the columns of a byte
abbrev pub AgreeIn : ℕ → ℕ → List ℕ → List ℕ → Type 0
AgreeIn width byte r s = (j : ℕ) → j < width → HasBit byte j → slice_index r j ≡ slice_index s j

-- The functional dependency of the textbooks: any two rows of the relation that agree in the left columns agree in
-- the right columns.
abbrev pub Depends : ℕ → ℕ → ℕ → Relation → Type 0
Depends width left right rel = (r s : List ℕ) → r ∈ rel → s ∈ rel → AgreeIn width left r s → AgreeIn width right r s

-- There is a rule for each pair of bytes, and a relation of that width keeps it exactly when it has the pair's
-- functional dependency.
pub record Dependencies (width : ℕ) (bytes : List ℕ) (rules : List Rule) : Type 0 where
  pub one_each : length rules * 2 ≡ length bytes
  pub kept : (i : ℕ) (rule : Rule) → slice_get rules i ≡ Some rule → (rel : Relation) → OfWidth width rel →
      Keeps rel rule ↔ Depends width (slice_index bytes (i * 2)) (slice_index bytes (i * 2 + 1)) rel

abbrev pub KeysAreDependencies : Type 0
KeysAreDependencies = (width : ℕ) (bytes : List ℕ) → SoundKeys width bytes → Dependencies width bytes (keys_meaning width bytes).rules

-- what a key list opens as
pub record Opens (width : ℕ) (bytes : List ℕ) (m : BookMeaning) : Type 0 where
  pub as_written : SoundKeys width bytes → m ≡ keys_meaning width bytes
  pub as_dependencies : SoundKeys width bytes → Dependencies width bytes m.rules
  pub as_empty : (SoundKeys width bytes → ⊥) → m ≡ record { width = 1; rules = [] }

-- Each key list is sound or has a first fault, and not both; there is one place of it.
pub record Faults : Type 0 where
  pub sound_or : (width : ℕ) (bytes : List ℕ) → SoundKeys width bytes ⊎ ((place : ℕ) × FirstFault width bytes place)
  pub not_both : (width : ℕ) (bytes : List ℕ) (place : ℕ) → FirstFault width bytes place → SoundKeys width bytes → ⊥
  pub one_place : (width : ℕ) (bytes : List ℕ) (p q : ℕ) → FirstFault width bytes p → FirstFault width bytes q → p ≡ q
