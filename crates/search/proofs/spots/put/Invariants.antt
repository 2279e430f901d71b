use Rattle.std.proofs.Common.{◌≡◌, ℕ, ◌+◌, ◌<◌, ◌≤◌, ◌⊎◌, get_or, length}
use Rattle.search.specs.Placings.{place}
use Rattle.search.proofs.spots.put.Given as goal

abbrev pub invariant-loop-i : goal.invariant-loop-i
invariant-loop-i g l =
    (length l.places ≡ 8)
    × ((k : ℕ) → k < l.i → get_or l.places (l.from + k) 0 ≡ place (g.P.Placement.places l.placing) k)
    × ((k : ℕ) → (k < l.from) ⊎ (l.from + l.count ≤ k) → get_or l.places k 0 ≡ get_or l.initial.places k 0)
