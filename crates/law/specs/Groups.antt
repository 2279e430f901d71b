-- The entries of a trial, how they stand in groups, and what the groups show as.
use Rattle.std.specs.Prelude.{◌≡◌, ℕ, suc, ◌+◌, cond, List, [], ◌∷◌, ◌++◌, map, Some, Option, nat_lt}
use Rattle.std.specs.List.{slice_get}
use Rattle.rules.specs.declared.term.Term.{Term}
use Rattle.rules.specs.declared.term.Term.TheVariants.{Constant, Variable}
use Rattle.rules.specs.Rules.{Relation, Pattern, Valuation, at, Places}
use Rattle.rules.specs.Books.{BookMeaning, base, Stands, Known, within}
use Rattle.rules.specs.Doubled.{holds}
use Rattle.law.specs.Implied.{Model}

-- The starting rows of a trial are the rows of its target's doubled form: a pattern again, whose variables are called
-- symbols. An entry is a symbol that stands in them, or a constant.
abbrev pub Entry : Pattern → Term → Type 0
Entry start e = Known start e

-- two entries are forced to be one: every placing of the starting rows, in every relation that keeps the book, gives
-- both one number
abbrev pub Forced : BookMeaning → Pattern → Term → Term → Type 0
Forced b start e e' = (rel : Relation) → Model b rel → (h : Valuation) → Places h start rel → at h e ≡ at h e'

-- What each starting symbol shows as: its group's constant, or else 16,777,216 plus the group's least symbol. A
-- constant shows as itself. Of other symbols it says nothing.
abbrev pub State : Type 0
State = Valuation

-- each starting symbol is alone in its group
abbrev pub Alone : Pattern → State → Type 0
Alone start s = (v : ℕ) → Stands v start → s v ≡ base + v

-- two entries are in one group (they are merged): they show as one number
abbrev pub OneGroup : State → Term → Term → Type 0
OneGroup s e e' = at s e ≡ at s e'

-- the current rows: the starting rows as shown
abbrev pub current : Pattern → State → Relation
current start s = map (map (at s)) start

-- how many different numbers stand in a list
abbrev pub different : List ℕ → ℕ
different [] = 0
different (x ∷ xs) = cond (holds xs x) (different xs) (suc (different xs))

-- the symbols of a row, and of rows, with repeats
abbrev pub row_symbols : List Term → List ℕ
row_symbols [] = []
row_symbols (Constant c ∷ row) = row_symbols row
row_symbols (Variable v ∷ row) = v ∷ row_symbols row

abbrev pub symbols : Pattern → List ℕ
symbols [] = []
symbols (row ∷ rows) = row_symbols row ++ symbols rows

-- those numbers of a list that are no constants
abbrev pub unknowns : List ℕ → List ℕ
unknowns [] = []
unknowns (n ∷ ns) = cond (nat_lt n base) (unknowns ns) (n ∷ unknowns ns)

-- how many starting symbols there are
abbrev pub symbol_count : Pattern → ℕ
symbol_count start = different (symbols start)

-- how many groups hold a starting symbol and no constant: each shows as one number, and no two as the same
abbrev pub group_count : Pattern → State → ℕ
group_count start s = different (unknowns (map s (symbols start)))

-- what stands in row i, column j
abbrev pub place : {A : Type 0} → List (List A) → ℕ → ℕ → Option A
place rows i j = within (slice_get rows i) (λ row. slice_get row j)

-- What an entry reads as in rows that stand in place of the starting rows: a symbol as the number in its place, which
-- is one number in all its places, and a constant as itself.
abbrev pub Reads : Pattern → Relation → Term → ℕ → Type 0
Reads start rows (Constant c) n = n ≡ c
Reads start rows (Variable v) n = (i j : ℕ) → place start i j ≡ Some (Variable v) → place rows i j ≡ Some n

-- two entries read alike there
abbrev pub ReadAlike : Pattern → Relation → Term → Term → Type 0
ReadAlike start rows e e' = (n : ℕ) × Reads start rows e n × Reads start rows e' n
