use Rattle.std.proofs.Common.{◌≡◌, ℕ, ◌<◌, [], get_or}
use Rattle.search.proofs.choices.same_row.Given as goal

abbrev pub invariant-loop-column : goal.invariant-loop-column
invariant-loop-column g l =
    let rel = (g.R.Relation.meaning l.relation).rows in
    (j : ℕ) → j < l.column → get_or (get_or rel l.a []) j 0 ≡ get_or (get_or rel l.b []) j 0
