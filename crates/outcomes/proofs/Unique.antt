-- No two outcomes are due to one target.
use Rattle.std.proofs.Common.{◌≡◌, ℕ, sym, refl, ap, ◌∙◌, inl, inr, arith}
use Rattle.std.proofs.lemmas.Bool.{cases_eq}
use Rattle.rules.specs.Rules.{Relation, Pattern, Rule}
use Rattle.rules.specs.Books.{BookMeaning, WellFormed, WellFormedBook}
use Rattle.rules.specs.Doubled.{doubled_rows}
use Rattle.law.specs.Implied.{Counterexample}
use Rattle.law.proofs.Starting.{starts_fit}
use Rattle.law.proofs.SameEnd.{same_rows}
use Rattle.law.proofs.Verdicts.{impossible_implied, no_counterexample}
use Rattle.writing.specs.Outcomes.{Outcome, Follows, Fails}
use Rattle.outcomes.specs.Due.{Shows, as_constant, as_symbol, RowsDue, Due}

module _ (b : BookMeaning) (book_fits : WellFormedBook b) (t : Rule) (fits : WellFormed b.width t) where
  abbrev start : Pattern
  start = doubled_rows t

  shows_one : (rel : Relation) → Counterexample b t rel → (v : ℕ) {n m : ℕ} → Shows b start v n → Shows b start v m → n ≡ m
  shows_one rel k v {n} {m} (as_constant low all) (as_constant low' all') =
      elim (cases_eq n m) [
        | inl e ↦ e
        | inr d ↦ absurd (no_counterexample b t rel (impossible_implied b book_fits t fits (λ r model h placed. d (sym (all r model h placed) ∙ all' r model h placed))) k)
      ]
  shows_one rel k v (as_constant low all) (as_symbol st one least none) = absurd (none _ low all)
  shows_one rel k v (as_symbol st one least none) (as_constant low all) = absurd (none _ low all)
  shows_one rel k v (as_symbol {u = u} st one least none) (as_symbol {u = u'} st' one' least' none') =
      let up = least u' st' one' in
      let down = least' u st one in
      omega arith

  rows-one : (rows rows' : Relation) → RowsDue b t rows → RowsDue b t rows' → rows ≡ rows'
  rows-one rows rows' d d' =
      d.are ∙
      same_rows b start (starts_fit b book_fits t fits) d.shows d'.shows (λ v st. shows_one rows d.counterexample v (d.shown v st) (d'.shown v st)) ∙
      sym d'.are

  pub due-one : (o o' : Outcome) → Due b t o → Due b t o' → o ≡ o'
  due-one Follows Follows d d' = refl
  due-one Follows (Fails rows) d d' = absurd (no_counterexample b t rows d d'.counterexample)
  due-one (Fails rows) Follows d d' = absurd (no_counterexample b t rows d' d.counterexample)
  due-one (Fails rows) (Fails rows') d d' = ap Fails (rows-one rows rows' d d')
