use Rattle.std.proofs.Common.{◌≡◌, ℕ, Bool, ◌-◌, ◌≤◌, length}
use Rattle.sheets.specs.Walk.{each}
use Rattle.sheets.proofs.walk.each.Given as goal

abbrev pub invariant-loop-place : goal.invariant-loop-place
invariant-loop-place g l =
    (l.place ≤ length l.words)
    × ((test : ℕ → Bool) → ((w : ℕ) (b : Bool) → goal.F-post g l.fits w b → b ≡ test w) → each test l.words (l.place-end - l.place) l.place ≡ each test l.words l.count l.at)
