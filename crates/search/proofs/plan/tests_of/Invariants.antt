use Rattle.std.proofs.Common.{◌≡◌, length}
use Rattle.search.specs.Placings.{Leaves}
use Rattle.search.proofs.plan.tests_of.Given as goal

abbrev pub invariant-loop-column : goal.invariant-loop-column
invariant-loop-column l = (length l.tests.columns ≡ 8) × Leaves l.rule l.plan l.row l.tests l.column
