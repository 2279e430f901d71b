use Rattle.std.proofs.Common.{◌-◌, ◌≤◌, false}
use Rattle.trial.specs.Merging.{MergedOn}
use Rattle.trial.proofs.merging.run.Given as goal

abbrev pub invariant-loop-made : goal.invariant-loop-made
invariant-loop-made g l = MergedOn (g.B.Book.meaning l.book).rules l.initial.held l.held l.made false × (l.made ≤ l.n)

abbrev pub decreases-loop-made : goal.decreases-loop-made
decreases-loop-made g l = 64 - l.held.merges
