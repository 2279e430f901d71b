-- Runs as the histories of trials that start and finish.
use Rattle.std.proofs.Common.{◌≡◌, ℕ, suc, ◌+◌, Bool, List, [], ◌∷◌, sym, refl, subst, inl, inr, arith}
use mathlib.Core.List.Memᴰ
use Rattle.rules.specs.Rules.{Pattern, Rule}
use Rattle.rules.specs.Books.{BookMeaning, WellFormed, WellFormedBook}
use Rattle.rules.specs.Doubled.{doubled_rows, doubled_pairs}
use Rattle.law.specs.declared.outcome.Verdict.{Verdict}
use Rattle.law.specs.Groups.{State, Alone}
use Rattle.law.specs.Runs.{Merges, none, more, Run, Ended}
use Rattle.law.specs.Calls.{Going, fresh, moved, Start, Done, begun, Finishes, ended}
use Rattle.law.specs.Promise.{Turn, no_turn, next, Given, History}
use Rattle.law.specs.Laws.{EveryRunEnds, SameRunEnd, RunsEndAlike}
use Rattle.law.proofs.Starting.{starts_fit}
use Rattle.law.proofs.Lawful.{run_lawful}
use Rattle.law.proofs.Ends.{ends_from}
use Rattle.law.proofs.SameEnd.{same_end}

-- merges after merges
pub merges_after : (rules : List Rule) (start : Pattern) (s₀ s : State) (n : ℕ) → Merges rules start s₀ s n → {s' : State} {m : ℕ} →
    Merges rules start s s' m → Merges rules start s₀ s' (n + m)
merges_after rules start s₀ s n first none = let k : n ≡ n + 0 = omega arith in subst (Merges rules start s₀ s) k first
merges_after rules start s₀ s n first {s'} (more {m = m} rest step) =
    let k : suc (n + m) ≡ n + suc m = omega arith in
    subst (Merges rules start s₀ s') k (more (merges_after rules start s₀ s n first rest) step)

pub run_ends : EveryRunEnds
run_ends b fits t target_fits s n r =
    let e =
    ends_from b (doubled_rows t) (starts_fit b fits t target_fits) (doubled_pairs t) s n
    (run_lawful b (doubled_rows t) (starts_fit b fits t target_fits) s n r)
    in (
      e.last,
      e.count,
      e.clash,
      e.verdict,
      record {
        first = r.first;
        alone = r.alone;
        merges = merges_after b.rules (doubled_rows t) r.first s n r.merges e.merges;
      },
      e.ends,
    )

-- the book of targets that has this one
abbrev pub only : ℕ → Rule → BookMeaning
only width t = record { width = width; rules = t ∷ [] }

module _ (b : BookMeaning) (fits : WellFormedBook b) (t : Rule) (target_fits : WellFormed b.width t) where
  pub only-fits : WellFormedBook (only b.width t)
  only-fits =
      record {
        some_width = fits.some_width;
        small_width = fits.small_width;
        few = omega arith;
        rules_fit = λ r m. elim (Memᴰ.cases_cons m) [ inl e ↦ subst (WellFormed b.width) (sym e) target_fits | inr k ↦ elim k [ ] ];
      }

  abbrev pub started : Turn
  started = record { book = b; call = Start (only b.width t) 0; answer = Done }

  pub started-history : (s : State) → Alone (doubled_rows t) s → History b (started ∷ []) (Going (fresh b.width t s) ∷ [])
  started-history s alone =
      record {
        given = λ u m.
            elim (Memᴰ.cases_cons m) [
              | inl e ↦ subst (Given b) (sym e) (record { book_is = refl; targets_fit = only-fits })
              | inr k ↦ elim k [ ]
            ];
        answered = next (begun refl refl alone) no_turn;
      }

  pub run_finishes : (s : State) (n : ℕ) (r : Run b.rules (doubled_rows t) s n) (clash : Bool) (v : Verdict) →
      Ended b.rules (doubled_rows t) (doubled_pairs t) s clash v →
      Finishes b (Going (fresh b.width t r.first)) (record { verdict = v; left = Going (moved (fresh b.width t r.first) s n clash) })
  run_finishes s n r clash v e = ended refl refl r.merges e

  alike : (s s' : State) (n n' : ℕ) → Run b.rules (doubled_rows t) s n → Run b.rules (doubled_rows t) s' n' →
      (clash clash' : Bool) (v v' : Verdict) → Ended b.rules (doubled_rows t) (doubled_pairs t) s clash v →
      Ended b.rules (doubled_rows t) (doubled_pairs t) s' clash' v' → SameRunEnd (doubled_rows t) s s' n n' clash clash' v v'
  alike s s' n n' r r' clash clash' v v' e e' =
      let x = moved (fresh b.width t r.first) s n clash in
      let x' = moved (fresh b.width t r'.first) s' n' clash' in
      let same =
      same_end b fits t (started ∷ []) (started ∷ []) (Going (fresh b.width t r.first) ∷ []) (Going (fresh b.width t r'.first) ∷ [])
      (started-history r.first r.alone) (started-history r'.first r'.alone) refl refl
      (record { verdict = v; left = Going x }) (record { verdict = v'; left = Going x' }) (run_finishes s n r clash v e) (run_finishes s' n' r' clash' v' e')
      in
      let left = same.left x x' refl refl in
      record {
        verdict = same.verdict;
        clashed = left.clashed;
        groups = left.groups;
        merges = λ c. let k = left.merges c in omega arith;
      }

pub runs_alike : RunsEndAlike
runs_alike b fits t target_fits = alike b fits t target_fits
