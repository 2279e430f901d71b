use Rattle.std.proofs.Common.{◌≡◌, ◌+◌, ◌-◌, length}
use Rattle.search.specs.Placings.{OriginsFrom, OriginsOf, RowsFit}
use Rattle.search.proofs.plan.origins_of.Given as goal

abbrev pub invariant-loop-m : goal.invariant-loop-m
invariant-loop-m l = (length l.plan.origin ≡ 64) × RowsFit l.rule l.plan × OriginsFrom l.rule l.plan (l.rule.row_count - l.m)

abbrev pub invariant-loop-column : goal.invariant-loop-column
invariant-loop-column l = (length l.plan.origin ≡ 64) × RowsFit l.rule l.plan × OriginsFrom l.rule l.plan (l.row + 1) × OriginsOf l.rule l.plan l.row l.column
