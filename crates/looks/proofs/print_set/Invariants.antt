use Rattle.std.proofs.Common.{◌≤◌}
use Rattle.looks.proofs.print_set.Given as goal

-- no more are kept than were looked at
abbrev pub invariant-loop-rule : goal.invariant-loop-rule
invariant-loop-rule g l = l.kept ≤ l.rule
