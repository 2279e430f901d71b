use Rattle.search.specs.Progress.{WalkTried}
use Rattle.search.proofs.find.look_plainly.Given as goal

abbrev pub invariant-loop-m : goal.invariant-loop-m
invariant-loop-m g l = WalkTried (g.R.Relation.meaning l.relation).rows l.choices l.look l.m
