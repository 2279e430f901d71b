-- What a finished trial tells.
use Rattle.law.specs.Calls.{Finished}
use Rattle.trial.specs.declared.finished.Finished.{Finished as FinishedTrial}
use Rattle.trial.specs.Views.{view}

abbrev pub told : FinishedTrial → Finished
told f = record { verdict = f.verdict; left = view f.held }
