-- The outcome that is due to a target of a book.
use Rattle.std.specs.Prelude.{◌≡◌, ℕ, ◌+◌, ◌<◌, ◌≤◌, ◌↔◌, Some}
use Rattle.std.specs.List.{slice_get}
use Rattle.rules.specs.declared.term.Term.{Term}
use Rattle.rules.specs.declared.term.Term.TheVariants.{Constant, Variable}
use Rattle.rules.specs.Rules.{Relation, Pattern, Rule}
use Rattle.rules.specs.Books.{BookMeaning, base, Stands}
use Rattle.rules.specs.Doubled.{doubled_rows}
use Rattle.law.specs.Implied.{Implied, Counterexample}
use Rattle.law.specs.Groups.{Entry, Forced, State, current, ReadAlike}
use Rattle.writing.specs.Outcomes.{Outcome, Follows, Fails}

-- What a starting symbol shows as once all that the book forces is merged: the constant that it is forced to be, or
-- else 16,777,216 plus the least starting symbol that it is forced to be one with.
pub data Shows (b : BookMeaning) (start : Pattern) (v : ℕ) : ℕ → Type 0 where
  as_constant : {c : ℕ} → c < base → Forced b start (Variable v) (Constant c) → Shows b start v c
  as_symbol : {u : ℕ} → Stands u start → Forced b start (Variable v) (Variable u) →
      ((w : ℕ) → Stands w start → Forced b start (Variable v) (Variable w) → u ≤ w) →
      ((c : ℕ) → c < base → Forced b start (Variable v) (Constant c) → ⊥) → Shows b start v (base + u)

-- the rows that are due where the target fails
pub record RowsDue (b : BookMeaning) (t : Rule) (rows : Relation) : Type 0 where
  -- they keep every rule of the book and break the target
  pub counterexample : Counterexample b t rows
  -- two entries read alike there exactly if the book forces it
  pub alike : (e e' : Term) → Entry (doubled_rows t) e → Entry (doubled_rows t) e' →
      ReadAlike (doubled_rows t) rows e e' ↔ Forced b (doubled_rows t) e e'
  -- they are the starting rows as shown
  pub shows : State
  pub shown : (v : ℕ) → Stands v (doubled_rows t) → Shows b (doubled_rows t) v (shows v)
  pub are : rows ≡ current (doubled_rows t) shows

-- it follows exactly if no relation keeps every rule and breaks the target, and else it fails with these rows
abbrev pub Due : BookMeaning → Rule → Outcome → Type 0
Due b t Follows = Implied b t
Due b t (Fails rows) = RowsDue b t rows

-- the same by the number of the target in a book of targets
pub record DueAt (b targets : BookMeaning) (i : ℕ) (o : Outcome) : Type 0 where
  pub target : Rule
  pub listed : slice_get targets.rules i ≡ Some target
  pub is_due : Due b target o
