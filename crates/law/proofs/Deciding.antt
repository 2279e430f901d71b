-- A rule is implied, or some relation keeps the book and breaks it.
use Rattle.std.proofs.Common.{◌≡◌, ℕ, ◌+◌, ◌⊎◌, List, [], ◌∷◌, Some, None, refl, inl, inr, arith}
use Rattle.rules.specs.Rules.{Relation, Rule}
use Rattle.rules.specs.Books.{BookMeaning, base, WellFormed, WellFormedBook}
use Rattle.law.specs.declared.outcome.Verdict.{Verdict}
use Rattle.law.specs.declared.outcome.Verdict.TheVariants.{Void, Follows, Fails}
use Rattle.law.specs.Implied.{Implied, Counterexample}
use Rattle.law.specs.Groups.{State}
use Rattle.law.specs.Calls.{View, Going, fresh}
use Rattle.law.specs.Promise.{Turn, FinishedBy}
use Rattle.law.specs.Laws.{ImpliedOrBroken}
use Rattle.law.proofs.Verdicts.{no_counterexample}
use Rattle.law.proofs.Kept.{kept}
use Rattle.law.proofs.Ends.{every-ends}
use Rattle.law.proofs.RunEnds.{started, started-history}

module _ (b : BookMeaning) (fits : WellFormedBook b) (t : Rule) (target_fits : WellFormed b.width t) where
  abbrev Either : Type 0
  Either = Implied b t ⊎ ((rel : Relation) × Counterexample b t rel)

  some_none : Some t ≡ None → ⊥
  some_none e = let z : ◌≡◌ {A = ℕ} 0 1 = cc in omega arith

  -- by the verdict of some trial of it
  either : Either
  either =
      let s : State = λ v. base + v in
      let turns : List Turn = started b fits t target_fits ∷ [] in
      let views : List View = Going (fresh b.width t s) ∷ [] in
      let h = started-history b fits t target_fits s (λ v k. refl) in
      let e = every-ends b fits turns views h in
      let p = kept b fits turns views (FinishedBy b e.0) h refl e.1 in
      go e.0.verdict refl (λ k. some_none (p.void_only_if_never_started.0 k)) (λ k. (p.follows_exactly_if_implied t refl).0 k) (λ k. (p.fails_exactly_if_broken t refl).0 k)
    where
      go : {w : Verdict} (v : Verdict) → w ≡ v → (w ≡ Void → ⊥) → (w ≡ Follows → Implied b t) → (w ≡ Fails → (rel : Relation) × Counterexample b t rel) → Either
      go Void k void follows fails = absurd (void k)
      go Follows k void follows fails = inl (follows k)
      go Fails k void follows fails = inr (fails k)

pub decided : ImpliedOrBroken
decided b fits t target_fits =
    record {
      either = either b fits t target_fits;
      unbroken = (
        λ implied rel c. no_counterexample b t rel implied c,
        λ none. elim (either b fits t target_fits) [ inl implied ↦ implied | inr c ↦ absurd (none c.0 c.1) ],
      );
    }
