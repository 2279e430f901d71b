-- The laws of outcomes.
use Rattle.std.specs.Prelude.{◌≡◌, ℕ, ◌+◌, ◌<◌, ◌≤◌, ◌⊎◌, List, length}
use Rattle.rules.specs.declared.term.Term.{Term}
use Rattle.rules.specs.declared.term.Term.TheVariants.{Constant, Variable}
use Rattle.rules.specs.Rules.{◌∈◌, Relation, Rule}
use Rattle.rules.specs.Books.{BookMeaning, base, WellFormed, WellFormedBook}
use Rattle.rules.specs.Doubled.{doubled_rows}
use Rattle.law.specs.declared.outcome.Verdict.{Verdict}
use Rattle.law.specs.declared.outcome.Verdict.TheVariants as verdict
use Rattle.law.specs.Groups.{State, Alone}
use Rattle.law.specs.Calls.{Going, fresh, Finished, Finishes, finished_rows}
use Rattle.writing.specs.Outcomes.{Outcome, Follows, Fails}
use Rattle.outcomes.specs.Due.{Due}

-- what a finished trial tells, which is not void
abbrev pub told : Verdict → Relation → Outcome
told verdict.Void rows = Follows
told verdict.Follows rows = Follows
told verdict.Fails rows = Fails rows

abbrev pub outcome_of : Finished → Outcome
outcome_of f = told f.verdict (finished_rows f)

-- a constant is below n
abbrev pub Below : ℕ → Term → Type 0
Below n (Constant c) = c < n
Below n (Variable v) = Unit {0}

-- the constants of the book's pairs and of the target's rows are below n
pub record ConstantsBelow (n : ℕ) (b : BookMeaning) (t : Rule) : Type 0 where
  pub pairs : (r : Rule) → r ∈ b.rules → (p : Term × Term) → p ∈ r.pairs → Below n p.0 × Below n p.1
  pub rows : (row : List Term) → row ∈ t.pattern → (e : Term) → e ∈ row → Below n e

-- a constant below n, or a symbol below 64
abbrev pub Named : ℕ → ℕ → Type 0
Named n e = (e < n) ⊎ ((base ≤ e) × (e < base + 64))

-- at most 8 rows of the book's width
pub record FewRows (b : BookMeaning) (rows : Relation) : Type 0 where
  pub few : length rows ≤ 8
  pub wide : (row : List ℕ) → row ∈ rows → length row ≡ b.width

pub record OutcomesDue : Type 0 where
  -- each target has exactly one outcome that is due to it
  pub some : (b : BookMeaning) → WellFormedBook b → (t : Rule) → WellFormed b.width t → (o : Outcome) × Due b t o
  pub one : (b : BookMeaning) → WellFormedBook b → (t : Rule) → WellFormed b.width t → (o o' : Outcome) → Due b t o → Due b t o' → o ≡ o'
  -- every finished trial of the target tells it
  pub finished : (b : BookMeaning) → WellFormedBook b → (t : Rule) → WellFormed b.width t → (s : State) → Alone (doubled_rows t) s →
      (f : Finished) → Finishes b (Going (fresh b.width t s)) f → Due b t (outcome_of f)
  -- its rows are few
  pub few_rows : (b : BookMeaning) → WellFormedBook b → (t : Rule) → WellFormed b.width t → (rows : Relation) → Due b t (Fails rows) → FewRows b rows
  -- and have no constants but those of the book and the target
  pub named : (b : BookMeaning) → WellFormedBook b → (t : Rule) → WellFormed b.width t → (n : ℕ) → ConstantsBelow n b t →
      (rows : Relation) → Due b t (Fails rows) → (row : List ℕ) → row ∈ rows → (e : ℕ) → e ∈ row → Named n e
