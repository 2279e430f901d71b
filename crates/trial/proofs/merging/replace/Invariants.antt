use Rattle.std.proofs.Common.{◌≡◌, ℕ, ◌<◌, ◌≤◌, length, get_or}
use Rattle.trial.proofs.Passes.{changed}
use Rattle.trial.proofs.merging.replace.Given as goal

abbrev pub invariant-loop-number : goal.invariant-loop-number
invariant-loop-number l =
    (length l.shown ≡ 64)
    × ((k : ℕ) → k < l.number-index → get_or l.shown k 0 ≡ changed l.one l.other (get_or l.initial.shown k 0))
    × ((k : ℕ) → l.number-index ≤ k → get_or l.shown k 0 ≡ get_or l.initial.shown k 0)
