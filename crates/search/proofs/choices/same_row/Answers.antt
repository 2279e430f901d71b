use Rattle.std.proofs.Common.{arith}
use Rattle.search.proofs.Entries.{fitting}
use Rattle.search.proofs.Picked.{rows_same}
use Rattle.search.proofs.choices.same_row.Goals as goal

pub returns : goal.returns
returns g c =
    let relation = g.R.Relation.meaning c.args.relation.now in
    λ _. rows_same relation.rows _ _ relation.width c.requires.a c.requires.b (fitting relation.width relation.rows (g.R.Relation.even c.args.relation.now)) (λ j h. c.loop-column.invariant j (omega (arith, c.width-width.ensures)))
