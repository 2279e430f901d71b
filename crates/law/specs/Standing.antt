-- The promise as the contracts of the calls state it.
use Rattle.std.specs.Prelude.{◌≡◌, List, [], ◌∷◌, ◌++◌, length}
use Rattle.rules.specs.Books.{BookMeaning, WellFormedBook}
use Rattle.law.specs.Calls.{View, Blank, Call, Answer, Finished, Finishes}
use Rattle.law.specs.Promise.{Turn, Ending, Unfinished, FinishedBy, Steps, last_view, Promise, TargetsFit, LeadsTo}

-- a call with the book b that was answered a, and found the trial as x and left it as y: for every history that leads
-- to x, the promise holds of that history with this call added
abbrev pub CallPromised : BookMeaning → Call → View → Answer → View → Type 0
CallPromised b call x a y =
    (turns : List Turn) (views : List View) → LeadsTo b turns views x →
    Promise b (turns ++ (record { book = b; call = call; answer = a } ∷ [])) (views ++ (y ∷ [])) Unfinished

-- a finish with the book b that found the trial as x
abbrev pub FinishPromised : BookMeaning → View → Finished → Type 0
FinishPromised b x f = (turns : List Turn) (views : List View) → LeadsTo b turns views x → Promise b turns views (FinishedBy b f)

-- the turns of calls with one book, and their answers
abbrev pub turns_of : BookMeaning → List Call → List Answer → List Turn
turns_of b [] answers = []
turns_of b (call ∷ calls) [] = []
turns_of b (call ∷ calls) (a ∷ answers) = record { book = b; call = call; answer = a } ∷ turns_of b calls answers

-- calls made one after another on a blank trial, which they left as x, and how it ended
pub record ReplayPromised (b : BookMeaning) (calls : List Call) (answers : List Answer) (x : View) (ending : Ending) : Type 0 where
  pub all_answered : length answers ≡ length calls
  pub views : List View
  pub left : last_view Blank views ≡ x
  pub promise : Promise b (turns_of b calls answers) views ending

-- A call that does what it may keeps the promise.
abbrev pub EveryCallPromised : Type 0
EveryCallPromised =
    (b : BookMeaning) → WellFormedBook b → (call : Call) → TargetsFit call → (x : View) (a : Answer) (y : View) →
    Steps b call x a y → CallPromised b call x a y

abbrev pub EveryFinishPromised : Type 0
EveryFinishPromised =
    (b : BookMeaning) → WellFormedBook b → (x : View) (f : Finished) → Finishes b x f → FinishPromised b x f
