use Rattle.std.proofs.Common.{◌≡◌, ℕ, ◌<◌, length, get_or}
use Rattle.search.specs.Placings.{place}
use Rattle.search.proofs.order.put_back.Given as goal

abbrev pub invariant-loop-i : goal.invariant-loop-i
invariant-loop-i l = (length l.rows ≡ 4) × ((k : ℕ) → k < l.i → get_or l.rows k 0 ≡ place l.placing.rows (get_or l.places k 0))
