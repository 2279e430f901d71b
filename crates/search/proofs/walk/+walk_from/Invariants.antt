use Rattle.std.proofs.Common.{ℕ, ◌-◌, ◌<◌}
use Rattle.search.specs.Placings.{With, Joins, chosen}
use Rattle.search.proofs.walk.+walk_from.Given as goal

abbrev pub decreases-walk_from : goal.decreases-walk_from
decreases-walk_from g l = l.look.now.rule.row_count - l.depth

abbrev pub invariant-loop-m : goal.invariant-loop-m
invariant-loop-m g l = (k : ℕ) → k < l.m → With (g.R.Relation.meaning l.relation).rows l.look.rule l.depth l.places.rows (chosen l.choices k) (Joins l.look.rule)
