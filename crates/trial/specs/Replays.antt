-- Calls made one after another on a blank trial.
use Rattle.std.specs.Prelude.{◌≡◌, Bool, true, false, List, Ok, Err, Result}
use Rattle.rules.specs.Books.{BookMeaning}
use Rattle.law.specs.Calls.{View, Call, Start, Advance, Answer, Done, Made, Finishes}
use Rattle.law.specs.Promise.{Unfinished, FinishedBy}
use Rattle.law.specs.Standing.{ReplayPromised}
use Rattle.trial.specs.declared.fault.TrialFault.{TrialFault}
use Rattle.trial.specs.declared.reply.Done.{Done as WasDone}
use Rattle.trial.specs.declared.reply.Done.TheVariants.{Started, Merged}
use Rattle.trial.specs.declared.request.Request.{Request}
use Rattle.trial.specs.declared.request.Request.TheVariants.{Start as RequestStart, Advance as RequestAdvance}
use Rattle.trial.specs.declared.replay.Outcome.{Outcome}
use Rattle.trial.specs.declared.replay.Outcome.TheVariants.{Going, Finished}
use Rattle.trial.specs.Tells.{told}
use Rattle.trial.specs.Faults.{refused}
use Rattle.trial.specs.Seen.{seen}

-- the call that a request asks for
abbrev pub asked : {T : Type 0} → (T → BookMeaning) → Request T → Call
asked meaning (RequestStart targets number) = Start (meaning targets.now) number
asked meaning (RequestAdvance n) = Advance n

-- the answer that a reply tells
abbrev pub answer_of : Result WasDone TrialFault → Answer
answer_of (Ok Started) = Done
answer_of (Ok (Merged m stop)) = Made m stop
answer_of (Err e) = refused e

-- there are views of the trial after each call with which the promise holds of exactly these calls and answers, and of
-- what became of the trial
abbrev pub ReplayedSo : BookMeaning → List Call → Bool → List Answer → Outcome → Type 0
ReplayedSo b calls finish answers (Going t) = (finish ≡ false) × ReplayPromised b calls answers (seen t) Unfinished
ReplayedSo b calls finish answers (Finished f) = (finish ≡ true) × ((x : View) × ReplayPromised b calls answers x (FinishedBy b (told f)))

-- what became of a trial that the calls left as x
abbrev pub Concluded : BookMeaning → View → Bool → Outcome → Type 0
Concluded b x finish (Going t) = (finish ≡ false) × (seen t ≡ x)
Concluded b x finish (Finished f) = (finish ≡ true) × Finishes b x (told f)
