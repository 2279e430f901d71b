-- Books: what each question about one answers, and which are well formed.
use Rattle.std.specs.Prelude.{◌≡◌, ℕ, ◌<◌, ◌≤◌, List, [], length, Some, None, Option}
use Rattle.std.specs.List.{slice_get}
use Rattle.std.specs.Option.{option_map}
use Rattle.rules.specs.declared.term.Term.{Term}
use Rattle.rules.specs.declared.term.Term.TheVariants.{Constant, Variable}
use Rattle.rules.specs.declared.term.Kind.{Kind}
use Rattle.rules.specs.declared.term.Kind.TheVariants.{Functional, Equality}
use Rattle.rules.specs.Rules.{◌∈◌, Pattern, Rule}

-- a book: a width, and a list of rules of that width
pub record BookMeaning : Type 0 where
  pub width : ℕ
  pub rules : List Rule

-- What stands at a place. `slice_get` is none exactly past the end of a list.
abbrev pub within : {X Y : Type 0} → Option X → (X → Option Y) → Option Y
within None f = None
within (Some x) f = f x

abbrev pub kind_at : List Rule → ℕ → Option Kind
kind_at rules i = option_map (λ r. r.kind) (slice_get rules i)

abbrev pub rows_at : List Rule → ℕ → Option ℕ
rows_at rules i = option_map (λ r. length r.pattern) (slice_get rules i)

abbrev pub term_at : List Rule → ℕ → ℕ → ℕ → Option Term
term_at rules i row column = within (slice_get rules i) (λ r. within (slice_get r.pattern row) (λ t. slice_get t column))

abbrev pub left_at : List Rule → ℕ → ℕ → Option ℕ
left_at rules i k = within (slice_get rules i) (λ r. slice_get r.left k)

abbrev pub pair_at : List Rule → ℕ → ℕ → Option (Term × Term)
pair_at rules i k = within (slice_get rules i) (λ r. slice_get r.pairs k)

-- constants are below this number
abbrev pub base : ℕ
base = 16777216

-- a term that a rule may have
abbrev pub Small : Term → Type 0
Small (Constant c) = c < base
Small (Variable v) = v < 32

-- the variable stands in the pattern
abbrev pub Stands : ℕ → Pattern → Type 0
Stands v p = (row : List Term) × (row ∈ p) × (Variable v ∈ row)

-- a term that a pair may have: a constant, or a variable of the pattern
abbrev pub Known : Pattern → Term → Type 0
Known p (Constant c) = c < base
Known p (Variable v) = Stands v p

-- a pair that a rule of this kind may have: of a functional rule, a right variable twice
abbrev pub PairOf : Kind → Term × Term → Type 0
PairOf Functional p = (v : ℕ) × (p ≡ (Variable v, Variable v))
PairOf Equality p = Unit {0}

-- left variables that a rule of this kind may have
abbrev pub LeftOf : Kind → List ℕ → Type 0
LeftOf Functional vs = Unit {0}
LeftOf Equality vs = vs ≡ []

-- a rule that a book of this width may have
pub record WellFormed (width : ℕ) (r : Rule) : Type 0 where
  pub some_row : 1 ≤ length r.pattern
  pub few_rows : length r.pattern ≤ 4
  pub of_width : (row : List Term) → row ∈ r.pattern → length row ≡ width
  pub small : (row : List Term) → row ∈ r.pattern → (t : Term) → t ∈ row → Small t
  pub few_left : length r.left ≤ 32
  pub left_fits : LeftOf r.kind r.left
  pub left_stands : (v : ℕ) → v ∈ r.left → Stands v r.pattern
  pub few_pairs : length r.pairs ≤ 32
  pub pairs_known : (p : Term × Term) → p ∈ r.pairs → Known r.pattern p.0 × Known r.pattern p.1
  pub pairs_fit : (p : Term × Term) → p ∈ r.pairs → PairOf r.kind p

pub record WellFormedBook (b : BookMeaning) : Type 0 where
  pub some_width : 1 ≤ b.width
  pub small_width : b.width ≤ 8
  pub few : length b.rules ≤ 1024
  pub rules_fit : (r : Rule) → r ∈ b.rules → WellFormed b.width r
