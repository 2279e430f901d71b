-- What is seen of a trial.
use Rattle.std.specs.Prelude.{◌≡◌, Ok, Err, Result}
use Rattle.law.specs.Calls.{View}
use Rattle.trial.specs.declared.fault.TrialFault.{TrialFault}
use Rattle.trial.specs.declared.trial.Trial.{Trial}
use Rattle.trial.specs.Views.{view}

-- the view of a trial: what contracts outside its module speak of
abbrev pub seen : Trial → View
seen t = view t.held

-- a call that is refused leaves the whole trial as it was
abbrev pub Unchanged : {A : Type 0} → Result A TrialFault → Trial → Trial → Type 0
Unchanged (Ok a) t t' = Unit {0}
Unchanged (Err e) t t' = t' ≡ t
