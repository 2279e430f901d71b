-- Terms, patterns, relations, placings, rules, and what it is to keep one.
use Rattle.std.specs.Prelude.{◌≡◌, ℕ, List, map, length}
use mathlib.Core.List.{Memᴰ}
use Rattle.rules.specs.declared.term.Term.{Term}
use Rattle.rules.specs.declared.term.Term.TheVariants.{Constant, Variable}
use Rattle.rules.specs.declared.term.Kind.{Kind}
use Rattle.rules.specs.declared.term.Kind.TheVariants.{Functional, Equality}

infix 4 ◌∈◌
-- x stands in the list xs
abbrev pub ◌∈◌ : {A : Type 0} → A → List A → Type 0
x ∈ xs = Memᴰ x xs

-- a relation: a finite list of rows of numbers of any size (the field's relation, or instance)
abbrev pub Relation : Type 0
Relation = List (List ℕ)

-- every row of the relation has this width
abbrev pub OfWidth : ℕ → Relation → Type 0
OfWidth w rel = (row : List ℕ) → row ∈ rel → length row ≡ w

-- a pattern: a list of rows of terms (the field's tableau)
abbrev pub Pattern : Type 0
Pattern = List (List Term)

-- one number for each variable
abbrev pub Valuation : Type 0
Valuation = ℕ → ℕ

-- the number of a term: a constant is its own
abbrev pub at : Valuation → Term → ℕ
at f (Constant c) = c
at f (Variable v) = f v

-- f is a placing of the pattern in the relation (the field's embedding): it sends every row of the pattern to a row
-- of the relation. Two variables may get one number, and two rows may go to one row.
abbrev pub Places : Valuation → Pattern → Relation → Type 0
Places f p rel = (row : List Term) → row ∈ p → map (at f) row ∈ rel

-- A rule (the field's constraint): a kind, a pattern, left variables and pairs of terms. A functional rule has its
-- right variables as its pairs, each twice.
pub record Rule : Type 0 where
  pub kind : Kind
  pub pattern : Pattern
  pub left : List ℕ
  pub pairs : List (Term × Term)

-- two placings agree where a rule of this kind asks it: a functional rule on its left variables;
-- an equality rule has one placing, which it compares with itself
abbrev pub Agree : Kind → List ℕ → Valuation → Valuation → Type 0
Agree Functional left f g = (v : ℕ) → v ∈ left → f v ≡ g v
Agree Equality left f g = (v : ℕ) → f v ≡ g v

-- two placings of the rule's pattern in the relation that the rule compares
pub record Compares (rel : Relation) (r : Rule) (f g : Valuation) : Type 0 where
  pub first : Places f r.pattern rel
  pub second : Places g r.pattern rel
  pub agree : Agree r.kind r.left f g

-- The relation keeps the rule: whatever two placings it compares, both sides of each pair get one number, the left
-- side by the first and the right side by the second. What this says for each kind is the law KeepingReads.
abbrev pub Keeps : Relation → Rule → Type 0
Keeps rel r = (f g : Valuation) → Compares rel r f g → (p : Term × Term) → p ∈ r.pairs → at f p.0 ≡ at g p.1

-- it breaks the rule: it does not keep it
abbrev pub Breaks : Relation → Rule → Type 0
Breaks rel r = Keeps rel r → ⊥
