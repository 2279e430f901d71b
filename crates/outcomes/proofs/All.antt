-- The laws of outcomes, proved.
use Rattle.std.proofs.Common.{◌≡◌, ℕ, ◌+◌, Bool, List, refl, subst, arith}
use Rattle.rules.specs.Rules.{◌∈◌, Relation, Rule}
use Rattle.rules.specs.Books.{BookMeaning, base, WellFormed, WellFormedBook}
use Rattle.rules.specs.Doubled.{doubled_rows, doubled_pairs}
use Rattle.law.specs.declared.outcome.Verdict.{Verdict}
use Rattle.law.specs.declared.outcome.Verdict.TheVariants as verdict
use Rattle.law.specs.Groups.{State, current}
use Rattle.law.specs.Runs.{Run, Ended, none}
use Rattle.law.proofs.RunEnds.{run_ends}
use Rattle.writing.specs.Outcomes.{Outcome, Fails}
use Rattle.outcomes.specs.Due.{Due}
use Rattle.outcomes.specs.Laws.{told, ConstantsBelow, Named, OutcomesDue}
use Rattle.outcomes.proofs.Shown.{ended_due, finished_due}
use Rattle.outcomes.proofs.Unique.{due-one}
use Rattle.outcomes.proofs.Naming.{run_named, due-few}

told-fails : (v : Verdict) (rows rows' : Relation) → Fails rows ≡ told v rows' → rows' ≡ rows
told-fails verdict.Void rows rows' e = let z : ◌≡◌ {A = ℕ} 0 1 = cc in absurd (omega arith)
told-fails verdict.Follows rows rows' e = let z : ◌≡◌ {A = ℕ} 0 1 = cc in absurd (omega arith)
told-fails verdict.Fails rows rows' e = cc

module _ (b : BookMeaning) (book_fits : WellFormedBook b) (t : Rule) (fits : WellFormed b.width t) where
  -- a run of the target to its end
  pub record WholeRun : Type 0 where
    pub last : State
    pub count : ℕ
    pub clash : Bool
    pub verdict : Verdict
    pub run : Run b.rules (doubled_rows t) last count
    pub ends : Ended b.rules (doubled_rows t) (doubled_pairs t) last clash verdict

  pub whole_run : WholeRun
  whole_run =
      let e = run_ends b book_fits t fits (λ v. base + v) 0 (record { first = λ v. base + v; alone = λ v st. refl; merges = none }) in
      record { last = e.0; count = 0 + e.1; clash = e.2; verdict = e.3; run = e.4; ends = e.5 }

  pub some : (o : Outcome) × Due b t o
  some = let w = whole_run in (told w.verdict (current (doubled_rows t) w.last), ended_due b book_fits t fits w.last w.count w.run w.ends)

  pub named : (n : ℕ) → ConstantsBelow n b t → (rows : Relation) → Due b t (Fails rows) → (row : List ℕ) → row ∈ rows → (e : ℕ) → e ∈ row → Named n e
  named n known rows d =
      let w = whole_run in
      let rows' = current (doubled_rows t) w.last in
      let same = due-one b book_fits t fits (Fails rows) (told w.verdict rows') d (ended_due b book_fits t fits w.last w.count w.run w.ends) in
      subst (λ (rs : Relation). (row : List ℕ) → row ∈ rs → (e : ℕ) → e ∈ row → Named n e) (told-fails w.verdict rows rows' same)
      (run_named b book_fits t fits n known w.last w.count w.run)

pub outcomes_due : OutcomesDue
outcomes_due = record { some = some; one = due-one; finished = finished_due; few_rows = λ b book_fits t fits. due-few b t fits; named = named }
