use Rattle.std.proofs.Common.{◌≡◌, ℕ, ◌+◌, ◌<◌, get_or, length}
use Rattle.rules.specs.Doubled.{copied}
use Rattle.rules.specs.Loaded.{loaded_term, meant, no_row, no_term}
use Rattle.rules.proofs.doubling.doubled_rows.Given as goal

abbrev pub invariant-loop-k : goal.invariant-loop-k
invariant-loop-k l =
    (length l.rows ≡ 8)
    × ((i : ℕ) → i < l.rule.row_count → get_or l.rows i no_row ≡ get_or l.rule.rows i no_row)
    × ((i : ℕ) → i < l.k → (j : ℕ) → j < l.rule.width → get_or (get_or l.rows (l.rule.row_count + i) no_row).terms j no_term ≡ copied (meant l.rule).left (loaded_term l.rule i j))
