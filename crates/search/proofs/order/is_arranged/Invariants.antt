use Rattle.std.proofs.Common.{ℕ, ◌<◌}
use Rattle.search.specs.Placings.{place, SameRow, Somewhere}
use Rattle.search.proofs.order.is_arranged.Given as goal

abbrev pub invariant-loop-i : goal.invariant-loop-i
invariant-loop-i l = ((k : ℕ) → k < l.i → (place l.places k < l.rule.row_count) × SameRow l.rule k l.other (place l.places k)) × ((k : ℕ) → k < l.i → Somewhere l.rule l.other k)
