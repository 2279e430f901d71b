-- The laws of trials.
use Rattle.std.specs.Prelude.{◌≡◌, ℕ, ◌+◌, ◌-◌, ◌<◌, ◌≤◌, Bool, false, cond, ◌⊎◌, ◌↔◌, List, Some, nat_le}
use Rattle.rules.specs.declared.term.Term.TheVariants.{Variable}
use Rattle.rules.specs.Rules.{◌∈◌, Relation, Pattern, Rule}
use Rattle.rules.specs.Books.{BookMeaning, base, Stands, WellFormed, WellFormedBook}
use Rattle.rules.specs.Doubled.{doubled_rows, doubled_pairs}
use Rattle.law.specs.declared.outcome.Stop.TheVariants.{Spent, Rest}
use Rattle.law.specs.declared.outcome.Verdict.{Verdict}
use Rattle.law.specs.Implied.{Implied, Counterexample}
use Rattle.law.specs.Groups.{State, OneGroup}
use Rattle.law.specs.Runs.{Clashing, AtRest, Merges, Run, Ended}
use Rattle.law.specs.Calls.{Started, View, Blank, Going, Answer, Made, Advances, Finished, Finishes, finished_rows}
use Rattle.law.specs.Promise.{Turn, Ending, last_view, AnsweredLast, seen, target_of, Promise, GivenLast, History}

-- Every list of calls keeps the promise, whichever open spots are taken.
abbrev pub PromiseKept : Type 0
PromiseKept =
    (b : BookMeaning) → WellFormedBook b → (turns : List Turn) (views : List View) (ending : Ending) →
    History b turns views → GivenLast b ending → AnsweredLast (last_view Blank views) ending → Promise b turns views ending

-- Every trial ends: after every list of calls there are merges that bring it to rest or to a clash.
abbrev pub EveryTrialEnds : Type 0
EveryTrialEnds =
    (b : BookMeaning) → WellFormedBook b → (turns : List Turn) (views : List View) → History b turns views →
    (f : Finished) × Finishes b (last_view Blank views) f

-- What two trials of one target have in common as they were left.
pub record SameLeft (x x' : Started) : Type 0 where
  -- if one clashes the other does not come to rest
  pub clashed : x.clashed ≡ x'.clashed
  -- at rest they have the same groups, and have made as many merges
  pub groups : x.clashed ≡ false → (v : ℕ) → Stands v x.rows → x.shows v ≡ x'.shows v
  pub merges : x.clashed ≡ false → x.merges ≡ x'.merges

-- What two finished trials of one target have in common.
pub record SameEnd (f f' : Finished) : Type 0 where
  pub verdict : f.verdict ≡ f'.verdict
  pub rows : finished_rows f ≡ finished_rows f'
  pub left : (x x' : Started) → f.left ≡ Going x → f'.left ≡ Going x' → SameLeft x x'

-- Two finished trials of one target over one book end alike, whatever their calls and whichever open spots they took.
abbrev pub SameEndWhicheverSpots : Type 0
SameEndWhicheverSpots =
    (b : BookMeaning) → WellFormedBook b → (t : Rule) (turns turns' : List Turn) (views views' : List View) →
    History b turns views → History b turns' views' → target_of turns ≡ Some t → target_of turns' ≡ Some t →
    (f f' : Finished) → Finishes b (last_view Blank views) f → Finishes b (last_view Blank views') f' → SameEnd f f'

-- A run of n merges can be brought to its end.
abbrev pub EveryRunEnds : Type 0
EveryRunEnds =
    (b : BookMeaning) → WellFormedBook b → (t : Rule) → WellFormed b.width t →
    (s : State) (n : ℕ) → Run b.rules (doubled_rows t) s n →
    (s' : State) × (m : ℕ) × (clash : Bool) × (v : Verdict) × Run b.rules (doubled_rows t) s' (n + m) ×
    Ended b.rules (doubled_rows t) (doubled_pairs t) s' clash v

-- Two runs of one target that have ended, whichever open spots they took: one verdict, and if one clashes the other does
-- not come to rest; at rest they have the same groups, and have made as many merges.
pub record SameRunEnd (start : Pattern) (s s' : State) (n n' : ℕ) (clash clash' : Bool) (v v' : Verdict) : Type 0 where
  pub verdict : v ≡ v'
  pub clashed : clash ≡ clash'
  pub groups : clash ≡ false → (u : ℕ) → Stands u start → s u ≡ s' u
  pub merges : clash ≡ false → n ≡ n'

abbrev pub RunsEndAlike : Type 0
RunsEndAlike =
    (b : BookMeaning) → WellFormedBook b → (t : Rule) → WellFormed b.width t → (s s' : State) (n n' : ℕ) →
    Run b.rules (doubled_rows t) s n → Run b.rules (doubled_rows t) s' n' → (clash clash' : Bool) (v v' : Verdict) →
    Ended b.rules (doubled_rows t) (doubled_pairs t) s clash v → Ended b.rules (doubled_rows t) (doubled_pairs t) s' clash' v' →
    SameRunEnd (doubled_rows t) s s' n n' clash clash' v v'

-- the answer to an advance by n, where so many merges are left to make before the trial comes to rest
abbrev pub due : ℕ → ℕ → Answer
due left n = cond (nat_le n left) (Made n Spent) (Made left Rest)

abbrev pub merges_of : View → ℕ
merges_of Blank = 0
merges_of (Going x) = x.merges

-- Where one run of the target comes to rest, its merges tell the answer to every advance of every trial of that target.
abbrev pub AnswersDue : Type 0
AnswersDue =
    (b : BookMeaning) → WellFormedBook b → (t : Rule) → WellFormed b.width t → (s : State) (all : ℕ) (v : Verdict) →
    Run b.rules (doubled_rows t) s all → Ended b.rules (doubled_rows t) (doubled_pairs t) s false v →
    (turns : List Turn) (views : List View) → History b turns views → target_of turns ≡ Some t →
    (n : ℕ) (a : Answer) (y : View) → Advances b n (last_view Blank views) a y → a ≡ due (all - merges_of (last_view Blank views)) n

-- what a starting symbol shows as: its group's constant, or 16,777,216 plus the least symbol of its group
pub data ShownSo (start : Pattern) (s : State) (v : ℕ) : Type 0 where
  by_constant : s v < base → ShownSo start s v
  by_least : (u : ℕ) → Stands u start → OneGroup s (Variable u) (Variable v) → s v ≡ base + u →
      ((w : ℕ) → Stands w start → OneGroup s (Variable w) (Variable v) → u ≤ w) → ShownSo start s v

-- After each call every starting symbol shows so.
abbrev pub GroupsShow : Type 0
GroupsShow =
    (b : BookMeaning) → WellFormedBook b → (turns : List Turn) (views : List View) (ending : Ending) →
    History b turns views → GivenLast b ending → AnsweredLast (last_view Blank views) ending →
    (x : Started) → Going x ∈ seen views ending → (v : ℕ) → Stands v x.rows → ShownSo x.rows x.shows v

-- With more rules merges are still merges, a clash is still one, and what rests has rested.
pub record MoreRules (rules rules' : List Rule) : Type 0 where
  pub merges : (start : Pattern) (s s' : State) (m : ℕ) → Merges rules start s s' m → Merges rules' start s s' m
  pub clash : (start : Pattern) (s : State) → Clashing rules start s → Clashing rules' start s
  pub rest : (start : Pattern) (s : State) → AtRest rules' start s → AtRest rules start s

abbrev pub MoreRulesStillARun : Type 0
MoreRulesStillARun = (rules rules' : List Rule) → ((r : Rule) → r ∈ rules → r ∈ rules') → MoreRules rules rules'

-- A rule is implied, or some relation keeps the book and breaks it; so it is implied exactly where none does.
pub record Decided (b : BookMeaning) (t : Rule) : Type 0 where
  pub either : Implied b t ⊎ ((rel : Relation) × Counterexample b t rel)
  pub unbroken : Implied b t ↔ ((rel : Relation) → Counterexample b t rel → ⊥)

abbrev pub ImpliedOrBroken : Type 0
ImpliedOrBroken = (b : BookMeaning) → WellFormedBook b → (t : Rule) → WellFormed b.width t → Decided b t
