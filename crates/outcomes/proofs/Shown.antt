-- A run that has ended gives the outcome that is due.
use Rattle.std.proofs.Common.{◌≡◌, ℕ, ◌<◌, ◌≤◌, Bool, sym, refl, ◌∙◌, subst, inl, inr, arith}
use Rattle.std.proofs.lemmas.Bool.{cases_lt}
use Rattle.rules.specs.declared.term.Term.TheVariants.{Constant, Variable}
use Rattle.rules.specs.Rules.{Pattern, Rule}
use Rattle.rules.specs.Books.{BookMeaning, base, Stands, WellFormed, WellFormedBook}
use Rattle.rules.specs.Doubled.{doubled_rows, doubled_pairs}
use Rattle.law.specs.declared.outcome.Verdict.{Verdict}
use Rattle.law.specs.declared.outcome.Verdict.TheVariants as verdict
use Rattle.law.specs.Groups.{State, Alone, current}
use Rattle.law.specs.Runs.{AtRest, Run, Ended, clash_met, pairs_met, pairs_apart}
use Rattle.law.specs.Calls.{Started, Going, fresh, moved, rows_told, Finished, Finishes, finish_width, clashed_before, ended}
use Rattle.law.proofs.Starting.{Fit, starts_fit}
use Rattle.law.proofs.Sound.{forced, rest_exact, clash-impossible}
use Rattle.law.proofs.Lawful.{Lawful, run_lawful}
use Rattle.law.proofs.Verdicts.{reached_implied, impossible_implied, rest_breaks, rest_alike}
use Rattle.outcomes.specs.Due.{Shows, as_constant, as_symbol, Due}
use Rattle.outcomes.specs.Laws.{told, outcome_of}

module _ (b : BookMeaning) (start : Pattern) (fit : Fit b start) (s : State) (n : ℕ) (l : Lawful b start s n) (rest : AtRest b.rules start s) where
  shown-low : (v : ℕ) → Stands v start → s v < base → Shows b start v (s v)
  shown-low v st low = as_constant low (forced b start fit s l.sound (Variable v) (Constant (s v)) st low refl)

  shown-high : (v : ℕ) → Stands v start → base ≤ s v → Shows b start v (s v)
  shown-high v st high =
      let w = l.shape v st high in
      let u = w.0 in
      let least = w.1 in
      let is = least.shown in
      subst (Shows b start v) (sym is)
      (as_symbol w.2 (forced b start fit s l.sound (Variable v) (Variable u) st w.2 (is ∙ sym least.itself))
      (λ x st' all.
      let same : s v ≡ s x = rest_exact b start fit s rest (Variable v) (Variable x) all in
      let k = l.shape x st' (omega arith) in
      let there = k.1.shown in
      let most = k.1.least in
      omega arith)
      (λ c low all. let same : s v ≡ c = rest_exact b start fit s rest (Variable v) (Constant c) all in omega arith))

  pub shown-so : (v : ℕ) → Stands v start → Shows b start v (s v)
  shown-so v st = elim (cases_lt (s v) base) [ inl low ↦ shown-low v st low | inr high ↦ shown-high v st high ]

-- only where a trial fails do its rows tell
told-rows : (v : Verdict) (x : Started) → told v (rows_told v (Going x)) ≡ told v (current x.rows x.shows)
told-rows verdict.Void x = refl
told-rows verdict.Follows x = refl
told-rows verdict.Fails x = refl

module _ (b : BookMeaning) (book_fits : WellFormedBook b) (t : Rule) (fits : WellFormed b.width t) where
  abbrev start : Pattern
  start = doubled_rows t

  abbrev fit : Fit b start
  fit = starts_fit b book_fits t fits

  pub ended_due : (s : State) (n : ℕ) → Run b.rules start s n → {c : Bool} {v : Verdict} → Ended b.rules start (doubled_pairs t) s c v →
      Due b t (told v (current start s))
  ended_due s n r (clash_met clash) =
      impossible_implied b book_fits t fits (clash-impossible b start fit s (run_lawful b start fit s n r).sound clash)
  ended_due s n r (pairs_met rest reached) = reached_implied b book_fits t fits s (run_lawful b start fit s n r).sound reached
  ended_due s n r (pairs_apart rest apart) =
      let l = run_lawful b start fit s n r in
      record {
        counterexample = rest_breaks b book_fits t fits s rest apart;
        alike = rest_alike b book_fits t fits s l.sound rest;
        shows = s;
        shown = shown-so b start fit s n l rest;
        are = refl;
      }

  pub finished_due : (s : State) → Alone start s → (f : Finished) → Finishes b (Going (fresh b.width t s)) f → Due b t (outcome_of f)
  finished_due s alone f (finish_width wide) = absurd (wide refl)
  finished_due s alone f (clashed_before w c) = let z : ◌≡◌ {A = ℕ} 0 1 = cc in absurd (omega arith)
  finished_due s alone f (ended {s = s'} {m = m} {c = clash} {v = v} w c merges e) =
      subst (Due b t) (sym (told-rows v (moved (fresh b.width t s) s' m clash))) (ended_due s' m (record { first = s; alone = alone; merges = merges }) e)
