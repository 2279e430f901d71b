-- The promise that every list of calls on a trial keeps.
use Rattle.std.specs.Prelude.{◌≡◌, ◌+◌, ◌↔◌, List, [], ◌∷◌, ◌++◌, Some, None, Option}
use Rattle.std.specs.List.{slice_get}
use Rattle.rules.specs.declared.term.Term.{Term}
use Rattle.rules.specs.Rules.{◌∈◌, Relation, Rule}
use Rattle.rules.specs.Books.{BookMeaning, WellFormedBook}
use Rattle.rules.specs.Doubled.{doubled_rows, doubled_pairs}
use Rattle.law.specs.declared.outcome.Verdict.TheVariants.{Void, Follows, Fails}
use Rattle.law.specs.Implied.{Implied, Counterexample}
use Rattle.law.specs.Groups.{Entry, Forced, OneGroup, symbol_count, group_count, ReadAlike}
use Rattle.law.specs.Calls.{Started, View, Blank, Going, Call, Start, Advance, Answer, Done, Made, Refused, Starts, Advances, Finished, Finishes, finished_rows}

-- a turn: a call, the book it was given, and its answer
pub record Turn : Type 0 where
  pub book : BookMeaning
  pub call : Call
  pub answer : Answer

-- how a list of calls ends: it goes on, or its last call was a finish with this book
pub data Ending : Type 0 where
  Unfinished : Ending
  FinishedBy : BookMeaning → Finished → Ending

-- what the call may do: its book, what it asks, the trial before, its answer, the trial after
abbrev pub Steps : BookMeaning → Call → View → Answer → View → Type 0
Steps b (Start targets k) x a y = Starts b targets k x a y
Steps b (Advance n) x a y = Advances b n x a y

-- each turn has its defined answer, and the views are those of the trial after each turn, where it was x at first
pub data Answered : View → List Turn → List View → Type 0 where
  no_turn : {x : View} → Answered x [] []
  next : {x y : View} {t : Turn} {turns : List Turn} {views : List View} → Steps t.book t.call x t.answer y → Answered y turns views →
      Answered x (t ∷ turns) (y ∷ views)

-- the last view of the trial, where it was x at first
abbrev pub last_view : View → List View → View
last_view x [] = x
last_view x (y ∷ views) = last_view y views

-- the finished trial is one that finish may give
abbrev pub AnsweredLast : View → Ending → Type 0
AnsweredLast x Unfinished = Unit {0}
AnsweredLast x (FinishedBy b f) = Finishes b x f

-- every view of the trial, the one that finish left too
abbrev pub seen : List View → Ending → List View
seen views Unfinished = views
seen views (FinishedBy b f) = views ++ (f.left ∷ [])

-- the rule that a start which was not refused names
abbrev pub named : Call → Answer → Option Rule
named (Start targets k) Done = slice_get targets.rules k
named (Start targets k) (Made m stop) = None
named (Start targets k) (Refused number at_place) = None
named (Advance n) a = None

abbrev pub or_later : {A : Type 0} → Option A → Option A → Option A
or_later None o = o
or_later (Some a) o = Some a

-- the target: the rule that the first start not refused names, or none where the trial was never started
abbrev pub target_of : List Turn → Option Rule
target_of [] = None
target_of (t ∷ turns) = or_later (named t.call t.answer) (target_of turns)

-- what holds of the finished trial, if there is one
abbrev pub OnceFinished : Ending → (Finished → Type 0) → Type 0
OnceFinished Unfinished P = Unit {0}
OnceFinished (FinishedBy b f) P = P f

-- What is promised of the rules of a book, of a list of turns on a blank trial, of the views of the trial after each
-- turn, and of how it ended.
pub record Promise (b : BookMeaning) (turns : List Turn) (views : List View) (ending : Ending) : Type 0 where
  -- every answer is the defined one, and a refused call leaves the trial as it was
  pub answered : Answered Blank turns views × AnsweredLast (last_view Blank views) ending
  -- after each call two entries are in one group only if the book forces it
  pub merged_only_if_forced : (x : Started) → Going x ∈ seen views ending → (e e' : Term) → Entry x.rows e → Entry x.rows e' →
      OneGroup x.shows e e' → Forced b x.rows e e'
  -- the merges made over the trial's life, finish's included, are the starting symbols less the groups that hold one and no constant
  pub counted : (x : Started) → Going x ∈ seen views ending → x.merges + group_count x.rows x.shows ≡ symbol_count x.rows
  -- the trial stands on the rule that the first start not refused names
  pub target : (x : Started) → Going x ∈ seen views ending →
      (t : Rule) × (target_of turns ≡ Some t) × (x.width ≡ b.width) × (x.rows ≡ doubled_rows t) × (x.pairs ≡ doubled_pairs t)
  -- void exactly where nothing was started
  pub void_only_if_never_started : OnceFinished ending (λ f. (f.verdict ≡ Void) ↔ (target_of turns ≡ None))
  -- follows exactly if each relation that keeps every rule keeps the target
  pub follows_exactly_if_implied : OnceFinished ending (λ f. (t : Rule) → target_of turns ≡ Some t → (f.verdict ≡ Follows) ↔ Implied b t)
  -- fails exactly if some relation keeps every rule and breaks the target
  pub fails_exactly_if_broken : OnceFinished ending (λ f.
      (t : Rule) → target_of turns ≡ Some t → (f.verdict ≡ Fails) ↔ ((rel : Relation) × Counterexample b t rel))
  -- after fails the finished rows are such a relation
  pub rows_keep_and_break : OnceFinished ending (λ f.
      (t : Rule) → target_of turns ≡ Some t → f.verdict ≡ Fails → Counterexample b t (finished_rows f))
  -- and two entries read alike there exactly if the book forces it
  pub alike_exactly_if_forced : OnceFinished ending (λ f.
      (t : Rule) → target_of turns ≡ Some t → f.verdict ≡ Fails → (e e' : Term) → Entry (doubled_rows t) e → Entry (doubled_rows t) e' →
      ReadAlike (doubled_rows t) (finished_rows f) e e' ↔ Forced b (doubled_rows t) e e')

-- what a start was given is a well-formed book of targets
abbrev pub TargetsFit : Call → Type 0
TargetsFit (Start targets k) = WellFormedBook targets
TargetsFit (Advance n) = Unit {0}

-- the turn was given this book
pub record Given (b : BookMeaning) (t : Turn) : Type 0 where
  pub book_is : t.book ≡ b
  pub targets_fit : TargetsFit t.call

abbrev pub GivenLast : BookMeaning → Ending → Type 0
GivenLast b Unfinished = Unit {0}
GivenLast b (FinishedBy c f) = c ≡ b

-- a history of a trial: every call in it was given this one book, and has its defined answer
pub record History (b : BookMeaning) (turns : List Turn) (views : List View) : Type 0 where
  pub given : (t : Turn) → t ∈ turns → Given b t
  pub answered : Answered Blank turns views

-- it leads to this view of the trial
pub record LeadsTo (b : BookMeaning) (turns : List Turn) (views : List View) (x : View) : Type 0 where
  pub history : History b turns views
  pub ends_at : last_view Blank views ≡ x
