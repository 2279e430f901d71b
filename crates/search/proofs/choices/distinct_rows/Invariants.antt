use Rattle.std.proofs.Common.{◌≡◌, length}
use Rattle.search.specs.Placings.{Distinct}
use Rattle.search.proofs.choices.distinct_rows.Given as goal

abbrev pub invariant-loop-row : goal.invariant-loop-row
invariant-loop-row g l = (length l.rows ≡ 8) × Distinct (g.R.Relation.meaning l.relation).rows l.rows l.count l.row
