-- A trial as its calls see it, and what each call may answer and leave.
use Rattle.std.specs.Prelude.{◌≡◌, ℕ, ◌+◌, ◌<◌, ◌≤◌, Bool, true, false, ◌≢◌, List, [], length, Some}
use Rattle.std.specs.List.{slice_get}
use Rattle.rules.specs.declared.term.Term.{Term}
use Rattle.rules.specs.Rules.{Relation, Pattern, Rule}
use Rattle.rules.specs.Books.{BookMeaning}
use Rattle.rules.specs.Doubled.{doubled_rows, doubled_pairs}
use Rattle.law.specs.declared.outcome.Stop.{Stop}
use Rattle.law.specs.declared.outcome.Stop.TheVariants.{Spent, Rest, Clash}
use Rattle.law.specs.declared.outcome.Verdict.{Verdict}
use Rattle.law.specs.declared.outcome.Verdict.TheVariants.{Void, Follows, Fails}
use Rattle.law.specs.Groups.{State, Alone, current}
use Rattle.law.specs.Runs.{Clashing, AtRest, Merges, Ended}

-- a started trial: its target's width, the rows and pairs of its target's doubled form, what each symbol shows as, the
-- merges made over its life, and whether it has clashed
pub record Started : Type 0 where
  pub width : ℕ
  pub rows : Pattern
  pub pairs : List (Term × Term)
  pub shows : State
  pub merges : ℕ
  pub clashed : Bool

-- what is seen of a trial
pub data View : Type 0 where
  Blank : View
  Going : Started → View

-- a trial of the target as it starts
abbrev pub fresh : ℕ → Rule → State → Started
fresh width t s = record { width = width; rows = doubled_rows t; pairs = doubled_pairs t; shows = s; merges = 0; clashed = false }

-- the same trial after m more merges
abbrev pub moved : Started → State → ℕ → Bool → Started
moved x s m clashed = record { width = x.width; rows = x.rows; pairs = x.pairs; shows = s; merges = x.merges + m; clashed = clashed }

-- what a call asks: to start on rule number k of a book of targets, or to advance by n merges
pub data Call : Type 0 where
  Start : BookMeaning → ℕ → Call
  Advance : ℕ → Call

-- what it answers: that it is done, the merges made with why it stopped, or a refusal by its number and its place
pub data Answer : Type 0 where
  Done : Answer
  Made : ℕ → Stop → Answer
  Refused : ℕ → ℕ → Answer

-- Start with the book b: what it was given, the trial before, the answer, the trial after. The tests stand in their
-- order, and a refusal leaves the trial as it was.
pub data Starts (b targets : BookMeaning) (k : ℕ) : View → Answer → View → Type 0 where
  not_blank : {x : Started} → Starts b targets k (Going x) (Refused 10 0) (Going x)
  no_rule : length targets.rules ≤ k → Starts b targets k Blank (Refused 8 k) Blank
  targets_width : k < length targets.rules → targets.width ≢ b.width → Starts b targets k Blank (Refused 9 0) Blank
  begun : {t : Rule} {s : State} → slice_get targets.rules k ≡ Some t → targets.width ≡ b.width → Alone (doubled_rows t) s →
      Starts b targets k Blank Done (Going (fresh targets.width t s))

-- Advance by n with the book b. A trial that has clashed stays so. Else it stops at the first of, in this order: n
-- merges made, no open spot left, a clash met.
pub data Advances (b : BookMeaning) (n : ℕ) : View → Answer → View → Type 0 where
  still_blank : Advances b n Blank (Refused 11 0) Blank
  advance_width : {x : Started} → x.width ≢ b.width → Advances b n (Going x) (Refused 9 0) (Going x)
  stopped : {x : Started} → x.width ≡ b.width → x.clashed ≡ true → Advances b n (Going x) (Made 0 Clash) (Going x)
  spent : {x : Started} {s : State} → x.width ≡ b.width → x.clashed ≡ false → Merges b.rules x.rows x.shows s n →
      Advances b n (Going x) (Made n Spent) (Going (moved x s n false))
  rests : {x : Started} {s : State} {m : ℕ} → x.width ≡ b.width → x.clashed ≡ false → Merges b.rules x.rows x.shows s m →
      m < n → AtRest b.rules x.rows s → Advances b n (Going x) (Made m Rest) (Going (moved x s m false))
  clashes : {x : Started} {s : State} {m : ℕ} → x.width ≡ b.width → x.clashed ≡ false → Merges b.rules x.rows x.shows s m →
      m < n → Clashing b.rules x.rows s → Advances b n (Going x) (Made m Clash) (Going (moved x s m true))

-- a finished trial: its verdict, and the trial as finish left it
pub record Finished : Type 0 where
  pub verdict : Verdict
  pub left : View

-- Finish with the book b: the trial before, and the finished trial. It merges to rest or clash, or nothing where it is void.
pub data Finishes (b : BookMeaning) : View → Finished → Type 0 where
  never_begun : Finishes b Blank (record { verdict = Void; left = Blank })
  finish_width : {x : Started} → x.width ≢ b.width → Finishes b (Going x) (record { verdict = Void; left = Going x })
  clashed_before : {x : Started} → x.width ≡ b.width → x.clashed ≡ true → Finishes b (Going x) (record { verdict = Follows; left = Going x })
  ended : {x : Started} {s : State} {m : ℕ} {c : Bool} {v : Verdict} → x.width ≡ b.width → x.clashed ≡ false →
      Merges b.rules x.rows x.shows s m → Ended b.rules x.rows x.pairs s c v →
      Finishes b (Going x) (record { verdict = v; left = Going (moved x s m c) })

-- the width that a finished trial tells: its target's, or 1 for a blank trial
abbrev pub width_of : View → ℕ
width_of Blank = 1
width_of (Going x) = x.width

abbrev pub finished_width : Finished → ℕ
finished_width f = width_of f.left

-- the rows that it tells: the current ones, and only where it fails
abbrev pub rows_of : View → Relation
rows_of Blank = []
rows_of (Going x) = current x.rows x.shows

abbrev pub rows_told : Verdict → View → Relation
rows_told Void x = []
rows_told Follows x = []
rows_told Fails x = rows_of x

abbrev pub finished_rows : Finished → Relation
finished_rows f = rows_told f.verdict f.left
