-- An output that always suffices.
use Rattle.std.specs.Prelude.{ℕ, ◌+◌, ◌*◌, ◌^◌, ◌<◌, ◌≤◌, List, length}
use Rattle.std.specs.List.{AllByRecursion}
use Rattle.rules.specs.declared.refusal.Refusal.{Refusal}
use Rattle.text.specs.declared.words.Name.{Name}
use Rattle.writing.specs.Outcomes.{Outcome, rows_of}
use Rattle.writing.specs.Reports.{parts, refusal_text}
use Rattle.writing.specs.Fitting.{whole}

-- a row of at most 8 entries, each a 32-bit number
pub record SmallRow (row : List ℕ) : Type 0 where
  pub wide : length row ≤ 8
  pub words : AllByRecursion (λ e. e < 2 ^ 32) row

-- at most 8 such rows
pub record Small (o : Outcome) : Type 0 where
  pub few : length (rows_of o) ≤ 8
  pub each : AllByRecursion SmallRow (rows_of o)

-- at most 256 such targets, with names of at most 24 bytes
pub record Modest (names : List Name) (os : List Outcome) : Type 0 where
  pub few : length os ≤ 256
  pub each : AllByRecursion Small os
  pub short : AllByRecursion (λ n. n.length ≤ 24) names

-- `targets 256`, and for each target `target 256 fails`, `rows 8` and 8 lines of 8 words of 24 bytes
unfoldable pub enough : ℕ
enough = 12 + 256 * (17 + (7 + 8 * 200))

pub record Enough : Type 0 where
  pub report : (text : List ℕ) (names : List Name) (os : List Outcome) → Modest names os → length (whole (parts text names os)) ≤ enough
  -- the longest refusal line has a number of 3 digits, a layer of 6 letters and a place of 20 digits
  pub refusal : (r : Refusal) → r.number < 256 → r.place < 2 ^ 64 → length (refusal_text r) ≤ 40
