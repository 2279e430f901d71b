use Rattle.std.proofs.Common.{◌≡◌, ℕ, ◌<◌, length}
use Rattle.search.specs.Placings.{Leaves, tests_at}
use Rattle.search.proofs.plan.plan_of.Given as goal

abbrev pub invariant-loop-row : goal.invariant-loop-row
invariant-loop-row l = (length l.plan.tests ≡ 8) × (l.plan.origin ≡ l.origins.origin) × ((i : ℕ) → i < l.row → Leaves l.rule l.origins i (tests_at l.plan i) l.rule.width)
