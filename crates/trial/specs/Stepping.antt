-- What the calls make of a trial's record.
use Rattle.std.specs.Prelude.{◌≡◌, ℕ, ◌<◌, ◌≤◌, ◌≢◌, length, IsSome, Some, None, Ok, Err, Option, Result}
use Rattle.rules.specs.Books.{BookMeaning}
use Rattle.law.specs.Calls.{Start, Advance, Done, Made, Starts, Advances, Finishes}
use Rattle.law.specs.Standing.{CallPromised, FinishPromised}
use Rattle.trial.specs.declared.fault.TrialFault.{TrialFault}
use Rattle.trial.specs.declared.fault.TrialFault.TheVariants.{NotBlank, NoRule, WidthsDiffer, StillBlank}
use Rattle.trial.specs.declared.finished.Finished.{Finished}
use Rattle.trial.specs.declared.held.Held.{Held}
use Rattle.trial.specs.declared.merging.Ran.{Ran}
use Rattle.trial.specs.Faults.{refused}
use Rattle.trial.specs.Tells.{told}
use Rattle.trial.specs.Views.{view}

-- the tests of a start, in their order
abbrev pub StartDue : BookMeaning → BookMeaning → ℕ → Option Held → Result (Unit {0}) TrialFault → Type 0
StartDue b targets k o (Ok u) = (o ≡ None) × (k < length targets.rules) × (targets.width ≡ b.width)
StartDue b targets k o (Err NotBlank) = IsSome o
StartDue b targets k o (Err (NoRule j)) = (o ≡ None) × (length targets.rules ≤ k) × (j ≡ k)
StartDue b targets k o (Err WidthsDiffer) = (o ≡ None) × (k < length targets.rules) × (targets.width ≢ b.width)
StartDue b targets k o (Err StillBlank) = ⊥

-- those of an advance, and the record that it goes on from
abbrev pub AdvanceDue : BookMeaning → Option Held → Result Held TrialFault → Type 0
AdvanceDue b o (Ok h) = (o ≡ Some h) × (h.target.width ≡ b.width)
AdvanceDue b o (Err NotBlank) = ⊥
AdvanceDue b o (Err (NoRule j)) = ⊥
AdvanceDue b o (Err WidthsDiffer) = (h : Held) × (o ≡ Some h) × (h.target.width ≢ b.width)
AdvanceDue b o (Err StillBlank) = o ≡ None

abbrev pub StartedHeld : BookMeaning → BookMeaning → ℕ → Option Held → Result Held TrialFault → Type 0
StartedHeld b targets k o (Ok h) = Starts b targets k (view o) Done (view (Some h)) × CallPromised b (Start targets k) (view o) Done (view (Some h))
StartedHeld b targets k o (Err e) = Starts b targets k (view o) (refused e) (view o) × CallPromised b (Start targets k) (view o) (refused e) (view o)

abbrev pub AdvancedHeld : BookMeaning → ℕ → Option Held → Result Ran TrialFault → Type 0
AdvancedHeld b n o (Ok r) =
    Advances b n (view o) (Made r.made r.stop) (view (Some r.held)) ×
    CallPromised b (Advance n) (view o) (Made r.made r.stop) (view (Some r.held))
AdvancedHeld b n o (Err e) = Advances b n (view o) (refused e) (view o) × CallPromised b (Advance n) (view o) (refused e) (view o)

abbrev pub FinishedHeld : BookMeaning → Option Held → Finished → Type 0
FinishedHeld b o f = Finishes b (view o) (told f) × FinishPromised b (view o) (told f)
