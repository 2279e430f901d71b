-- What the end of a trial says of its target.
use Rattle.std.proofs.Common.{◌↔◌, sym, refl, ◌∙◌, subst}
use Rattle.rules.specs.declared.term.Term.{Term}
use Rattle.rules.specs.Rules.{Relation, Rule, at, Keeps}
use Rattle.rules.specs.Books.{BookMeaning, WellFormed, WellFormedBook}
use Rattle.rules.specs.Doubled.{doubled_rows, doubled_pairs, doubled}
use Rattle.rules.proofs.Doubles.{doubling, at_same}
use Rattle.law.specs.Implied.{Implied, Counterexample}
use Rattle.law.specs.Groups.{Entry, Forced, State, current, Reads, ReadAlike}
use Rattle.law.specs.Runs.{AtRest, Reached}
use Rattle.law.proofs.Starting.{Fit, starts_fit, pair_entries}
use Rattle.law.proofs.Sound.{Impossible, Sound, forced, placed_here, rest_model, rest_exact}
use Rattle.law.proofs.Reading.{reads_shown, shown_read}

pub no_counterexample : (b : BookMeaning) (t : Rule) (rel : Relation) → Implied b t → Counterexample b t rel → ⊥
no_counterexample b t rel implied c = c.breaks (implied rel c.model)

module _ (b : BookMeaning) (book_fits : WellFormedBook b) (t : Rule) (fits : WellFormed b.width t) where
  abbrev fit : Fit b (doubled_rows t)
  fit = starts_fit b book_fits t fits

  -- both sides of every pair in one group: the target is implied
  pub reached_implied : (s : State) → Sound b (doubled_rows t) s → Reached (doubled_pairs t) s → Implied b t
  reached_implied s sound reached rel model = (doubling b.width t fits rel).1 keeps
    where
      keeps : Keeps rel (doubled t)
      keeps f g c p m =
          let k = pair_entries b.width t fits p m in
          forced b (doubled_rows t) fit s sound p.0 p.1 k.0 k.1 (reached p m) rel model f c.first ∙ at_same f g c.agree p.1

  -- no placing of the starting rows: the target is implied
  pub impossible_implied : Impossible b (doubled_rows t) → Implied b t
  impossible_implied none rel model = (doubling b.width t fits rel).1 (λ f g c p m. absurd (none rel model f c.first))

  -- at rest, where the current rows keep the target its pairs are reached
  kept-reached : (s : State) → Keeps (current (doubled_rows t) s) t → Reached (doubled_pairs t) s
  kept-reached s keeps p m =
      (doubling b.width t fits (current (doubled_rows t) s)).0 keeps s s
      (record { first = placed_here b (doubled_rows t) fit s; second = placed_here b (doubled_rows t) fit s; agree = λ v. refl }) p m

  -- at rest with a pair that is not reached: the current rows keep the book and break the target
  pub rest_breaks : (s : State) → AtRest b.rules (doubled_rows t) s → (Reached (doubled_pairs t) s → ⊥) → Counterexample b t (current (doubled_rows t) s)
  rest_breaks s rest unreached =
      record { model = rest_model b (doubled_rows t) fit s rest; breaks = λ keeps. unreached (kept-reached s keeps) }

  -- at rest two entries read alike in the current rows exactly if they are forced
  pub rest_alike : (s : State) → Sound b (doubled_rows t) s → AtRest b.rules (doubled_rows t) s → (e e' : Term) →
      Entry (doubled_rows t) e → Entry (doubled_rows t) e' →
      ReadAlike (doubled_rows t) (current (doubled_rows t) s) e e' ↔ Forced b (doubled_rows t) e e'
  rest_alike s sound rest e e' k k' =
      let start = doubled_rows t in (
        λ alike.
            forced b start fit s sound e e' k k'
            (sym (shown_read start s e k alike.0 alike.1) ∙ shown_read start s e' k' alike.0 alike.2),
        λ all. (at s e, reads_shown start s e, subst (Reads start (current start s) e') (sym (rest_exact b start fit s rest e e' all)) (reads_shown start s e')),
      )
