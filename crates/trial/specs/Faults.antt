-- The refusals of a trial, and what its calls answer.
use Rattle.std.specs.Prelude.{ℕ, Ok, Err, Result}
use Rattle.rules.specs.declared.refusal.Refusal.{Refusal}
use Rattle.rules.specs.declared.refusal.Layer.TheVariants.{Trial}
use Rattle.law.specs.declared.outcome.Stop.{Stop}
use Rattle.law.specs.Calls.{Answer, Done, Made, Refused}
use Rattle.trial.specs.declared.fault.TrialFault.{TrialFault}
use Rattle.trial.specs.declared.fault.TrialFault.TheVariants.{NotBlank, NoRule, WidthsDiffer, StillBlank}

-- each as every layer tells it
abbrev pub trial_refusal : TrialFault → Refusal
trial_refusal NotBlank = record { number = 10; layer = Trial; place = 0 }
trial_refusal (NoRule k) = record { number = 8; layer = Trial; place = k }
trial_refusal WidthsDiffer = record { number = 9; layer = Trial; place = 0 }
trial_refusal StillBlank = record { number = 11; layer = Trial; place = 0 }

abbrev pub refused : TrialFault → Answer
refused e = Refused (trial_refusal e).number (trial_refusal e).place

-- the answer of a start
abbrev pub started : Result (Unit {0}) TrialFault → Answer
started (Ok u) = Done
started (Err e) = refused e

-- the answer of an advance
abbrev pub advanced : Result (ℕ × Stop) TrialFault → Answer
advanced (Ok p) = Made p.0 p.1
advanced (Err e) = refused e
