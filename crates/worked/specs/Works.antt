-- What it is that a case works.
use Rattle.std.specs.Prelude.{◌≡◌, ℕ, Bool, true, false, List, ◌∷◌, map, Some, None, Option}
use Rattle.rules.specs.Rules.{◌∈◌}
use Rattle.rules.specs.Books.{BookMeaning, WellFormed, WellFormedBook}
use Rattle.rules.specs.Doubled.{doubled_rows, doubled_pairs}
use Rattle.law.specs.declared.outcome.Verdict.{Verdict}
use Rattle.law.specs.declared.outcome.Verdict.TheVariants.{Fails}
use Rattle.law.specs.Groups.{State, current}
use Rattle.law.specs.Runs.{Run, Ended}
use Rattle.law.specs.Calls.{View, Blank, Going, Start, Advance, Done, Finished, Finishes, finished_rows}
use Rattle.law.specs.Promise.{Turn, last_view, target_of, History}
use Rattle.worked.specs.Cases.{Case, cases}

-- a run of n merges of the case's target that ends in the state s, by a clash or not, with this verdict
pub record EndsSo (c : Case) (s : State) (n : ℕ) (clash : Bool) (v : Verdict) : Type 0 where
  pub run : Run c.book.rules (doubled_rows c.target) s n
  pub ends : Ended c.book.rules (doubled_rows c.target) (doubled_pairs c.target) s clash v

-- the merges of a run that came to rest
abbrev pub at_rest : Bool → ℕ → Option ℕ
at_rest true n = None
at_rest false n = Some n

abbrev pub merges_left : View → Option ℕ
merges_left Blank = None
merges_left (Going x) = at_rest x.clashed x.merges

-- it has the case's verdict and, at rest, the case's merges and, where it fails, the case's rows
pub record AsTold (c : Case) (s : State) (n : ℕ) (clash : Bool) (v : Verdict) : Type 0 where
  pub verdict : v ≡ c.verdict
  pub merges : at_rest clash n ≡ c.merges
  pub rows : v ≡ Fails → current (doubled_rows c.target) s ≡ c.rows

pub record Works (c : Case) : Type 0 where
  pub book_fits : WellFormedBook c.book
  pub target_fits : WellFormed c.book.width c.target
  -- a run that ends exists, and every run that ends is as told
  pub a_run : (s : State) × (n : ℕ) × (clash : Bool) × (v : Verdict) × EndsSo c s n clash v
  pub every_run : (s : State) (n : ℕ) (clash : Bool) (v : Verdict) → EndsSo c s n clash v → AsTold c s n clash v
  -- whatever was called before, every finish of a trial of the target gives the case's verdict, rows and merges
  pub every_finish : (turns : List Turn) (views : List View) → History c.book turns views → target_of turns ≡ Some c.target →
      (f : Finished) → Finishes c.book (last_view Blank views) f →
      (f.verdict ≡ c.verdict) × (finished_rows f ≡ c.rows) × (merges_left f.left ≡ c.merges)
  -- a start on the target and then the case's advances have the case's answers
  pub every_answer : (turns : List Turn) (views : List View) → History c.book turns views → target_of turns ≡ Some c.target →
      (targets : BookMeaning) (k : ℕ) → map (λ (t : Turn). t.call) turns ≡ Start targets k ∷ map Advance c.limits →
      map (λ (t : Turn). t.answer) turns ≡ Done ∷ c.answers

-- Each case works.
abbrev pub EveryCaseWorks : Type 0
EveryCaseWorks = (c : Case) → c ∈ cases → Works c
