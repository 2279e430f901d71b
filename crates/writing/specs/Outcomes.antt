-- What came of a target.
use Rattle.std.specs.Prelude.{ℕ, ◌≤◌, List, [], length, Some, None, Option, slice_index_or}
use Rattle.std.specs.List.{slice_get}
use Rattle.rules.specs.Books.{within}

-- it follows, or it fails, with these rows
pub data Outcome : Type 0 where
  Follows : Outcome
  Fails : List (List ℕ) → Outcome

abbrev pub rows_of : Outcome → List (List ℕ)
rows_of Follows = []
rows_of (Fails rows) = rows

abbrev pub count_of_rows : Outcome → Option ℕ
count_of_rows Follows = None
count_of_rows (Fails rows) = Some (length rows)

-- the entry at a row and a column, or none past an end
abbrev pub entry_at : Outcome → ℕ → ℕ → Option ℕ
entry_at o row column = within (slice_get (rows_of o) row) (λ r. slice_get r column)

-- each row has at most 8 entries
abbrev pub Narrow : Outcome → Type 0
Narrow o = (i : ℕ) → length (slice_index_or (rows_of o) i []) ≤ 8
