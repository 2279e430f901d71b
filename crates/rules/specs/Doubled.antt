-- The doubled form of a rule: an equality rule that says the same.
use Rattle.std.specs.Prelude.{ℕ, ◌+◌, Bool, cond, ◌↔◌, List, [], ◌++◌, map, ◌==◌}
use Rattle.std.specs.List.{list_any}
use Rattle.rules.specs.declared.term.Term.{Term}
use Rattle.rules.specs.declared.term.Term.TheVariants.{Constant, Variable}
use Rattle.rules.specs.declared.term.Kind.{Kind}
use Rattle.rules.specs.declared.term.Kind.TheVariants.{Functional, Equality}
use Rattle.rules.specs.Rules.{Relation, Pattern, Rule, Keeps}
use Rattle.rules.specs.Books.{WellFormed}

-- whether a number stands in a list
abbrev pub holds : List ℕ → ℕ → Bool
holds xs v = list_any (λ x. x == v) xs

-- a term in the second copy of a pattern: a left variable stays, and every other variable v is the symbol 32 + v
abbrev pub copied : List ℕ → Term → Term
copied left (Constant c) = Constant c
copied left (Variable v) = Variable (cond (holds left v) v (32 + v))

-- the pattern of a functional rule stands twice, that of an equality rule once
abbrev pub doubled_rows_as : Kind → Rule → Pattern
doubled_rows_as Functional r = r.pattern ++ map (map (copied r.left)) r.pattern
doubled_rows_as Equality r = r.pattern

abbrev pub doubled_rows : Rule → Pattern
doubled_rows r = doubled_rows_as r.kind r

-- the second side of a functional rule's pair is read in the second copy
abbrev pub doubled_pairs_as : Kind → Rule → List (Term × Term)
doubled_pairs_as Functional r = map (λ p. (p.0, copied r.left p.1)) r.pairs
doubled_pairs_as Equality r = r.pairs

abbrev pub doubled_pairs : Rule → List (Term × Term)
doubled_pairs r = doubled_pairs_as r.kind r

-- an equality rule is its own doubled form
abbrev pub doubled : Rule → Rule
doubled r = record { kind = Equality; pattern = doubled_rows r; left = []; pairs = doubled_pairs r }

-- A relation keeps a rule exactly when it keeps the equality rule on its doubled form.
abbrev pub Doubling : Type 0
Doubling = (width : ℕ) (r : Rule) → WellFormed width r → (rel : Relation) → Keeps rel r ↔ Keeps rel (doubled r)
