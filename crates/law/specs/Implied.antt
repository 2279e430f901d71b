-- What follows from a book.
use Rattle.rules.specs.Rules.{◌∈◌, Relation, OfWidth, Rule, Keeps, Breaks}
use Rattle.rules.specs.Books.{BookMeaning}

-- a relation of the book's width that keeps each of its rules (the field's model)
pub record Model (b : BookMeaning) (rel : Relation) : Type 0 where
  pub of_width : OfWidth b.width rel
  pub keeps : (r : Rule) → r ∈ b.rules → Keeps rel r

-- the rule follows from the book (logical implication): each relation that keeps the book keeps the rule
abbrev pub Implied : BookMeaning → Rule → Type 0
Implied b r = (rel : Relation) → Model b rel → Keeps rel r

-- a relation that keeps the book and breaks the rule
pub record Counterexample (b : BookMeaning) (r : Rule) (rel : Relation) : Type 0 where
  pub model : Model b rel
  pub breaks : Breaks rel r
