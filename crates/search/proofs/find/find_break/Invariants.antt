use Rattle.std.proofs.Common.{◌≡◌, None}
use Rattle.search.specs.Progress.{Progress}
use Rattle.search.specs.Spots.{Quiet}
use Rattle.search.proofs.find.find_break.Given as goal

abbrev pub invariant-search : goal.invariant-search
invariant-search g l = (l.found ≡ None) × Quiet (g.R.Relation.meaning l.relation).rows (g.B.Book.meaning l.book).rules l.start l.turn

abbrev pub invariant-loop-m : goal.invariant-loop-m
invariant-loop-m g l =
    (l.found ≡ None)
    × Quiet (g.R.Relation.meaning l.relation).rows (g.B.Book.meaning l.book).rules l.start l.turn
    × Progress (g.R.Relation.meaning l.relation).rows l.choices l.scratch.seen l.look l.m
