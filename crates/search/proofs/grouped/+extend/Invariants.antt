use Rattle.std.proofs.Common.{◌-◌}
use Rattle.search.specs.Seens.{Turn}
use Rattle.search.proofs.grouped.+extend.Given as goal

abbrev pub decreases-extend : goal.decreases-extend
decreases-extend g l = l.look.now.rule.row_count - l.depth

abbrev pub invariant-loop-m : goal.invariant-loop-m
invariant-loop-m g l = Turn (g.R.Relation.meaning l.relation).rows l.look.rule l.look.plan l.choices l.initial.scratch.seen l.scratch.seen l.depth l.placing.rows l.m
