-- How the search gets there: what a rule's terms say of a relation, and what a placing makes of them. A placing is the
-- list of the rows' places: row i of the pattern goes to row `place p i` of the relation.
use Rattle.std.specs.Prelude.{◌≡◌, ℕ, ◌-◌, ◌^◌, ◌<◌, ◌≤◌, ◌⊎◌, List, [], length, Some, None, Option, slice_index, slice_index_or}
use Rattle.rules.specs.declared.term.Term.{Term}
use Rattle.rules.specs.declared.term.Term.TheVariants.{Constant, Variable}
use Rattle.rules.specs.declared.loaded.TermRow.{TermRow}
use Rattle.rules.specs.declared.loaded.LoadedRule.{LoadedRule}
use Rattle.rules.specs.Rules.{at}
use Rattle.rules.specs.Loaded.{left_var, loaded_pair, loaded_term, Symbolic}
use Rattle.search.specs.declared.plan.Slot.{Slot}
use Rattle.search.specs.declared.plan.Tests.{Tests}
use Rattle.search.specs.declared.plan.Plan.{Plan}
use Rattle.search.specs.declared.choices.Choices.{Choices}
use Rattle.search.specs.declared.choices.Choices.TheVariants.{All, Picked}

-- left variable l as a term
abbrev pub left_term : LoadedRule → ℕ → Term
left_term rule l = Variable (left_var rule l)

-- f sends the first n terms of row i of the pattern to those of row k of the relation
abbrev pub Cells : List (List ℕ) → LoadedRule → (ℕ → ℕ) → ℕ → ℕ → ℕ → Type 0
Cells rel rule f i k n = (j : ℕ) → j < n → at f (loaded_term rule i j) ≡ slice_index (slice_index_or rel k []) j

-- f sends row i of the pattern to row k of the relation
pub record Lands (rel : List (List ℕ)) (rule : LoadedRule) (f : ℕ → ℕ) (i k : ℕ) : Type 0 where
  pub within : k < length rel
  pub wide : length (slice_index_or rel k []) ≡ rule.width
  pub cells : Cells rel rule f i k rule.width

-- a constant, or a symbol that stands in one of the first n rows of the pattern
unfoldable pub Early : LoadedRule → ℕ → Term → Type 0
Early rule n t = ((c : ℕ) × (t ≡ Constant c)) ⊎ ((i : ℕ) × (j : ℕ) × (i < n) × (j < rule.width) × (loaded_term rule i j ≡ t))

-- a term of a pair
pub record KnownTerm (rule : LoadedRule) (t : Term) : Type 0 where
  pub fits : Symbolic t
  pub stands : Early rule rule.row_count t

-- a rule whose placings may be walked through
pub record Sound (rule : LoadedRule) : Type 0 where
  pub some : 0 < rule.row_count
  pub rows : rule.row_count ≤ 8
  pub width : rule.width ≤ 8
  pub pairs : rule.pair_count ≤ 32
  pub terms : (i : ℕ) → i < rule.row_count → (j : ℕ) → j < rule.width → Symbolic (loaded_term rule i j)
  pub ones : (k : ℕ) → k < rule.pair_count → KnownTerm rule (loaded_pair rule k).0
  pub others : (k : ℕ) → k < rule.pair_count → KnownTerm rule (loaded_pair rule k).1

-- one whose placings may be grouped by their left numbers
pub record Groupable (rule : LoadedRule) : Type 0 where
  pub sound : Sound rule
  pub few : rule.row_count ≤ 4
  pub left : rule.left_count ≤ 32
  pub lefts : (l : ℕ) → l < rule.left_count → KnownTerm rule (left_term rule l)
  pub twice : (k : ℕ) → k < rule.pair_count → (loaded_pair rule k).0 ≡ (loaded_pair rule k).1

-- each row of the relation is as wide as the rule
abbrev pub Fitting : List (List ℕ) → LoadedRule → Type 0
Fitting rel rule = (k : ℕ) → k < length rel → length (slice_index_or rel k []) ≡ rule.width

-- some row of the relation is what f makes of row i of the pattern
abbrev pub Placed : List (List ℕ) → LoadedRule → (ℕ → ℕ) → ℕ → Type 0
Placed rel rule f i = (k : ℕ) × Lands rel rule f i k

-- of each row
abbrev pub AllPlaced : List (List ℕ) → LoadedRule → (ℕ → ℕ) → Type 0
AllPlaced rel rule f = (i : ℕ) → i < rule.row_count → Placed rel rule f i

-- f gives both terms of each pair one number
abbrev pub Joins : LoadedRule → (ℕ → ℕ) → Type 0
Joins rule f = (k : ℕ) → k < rule.pair_count → at f (loaded_pair rule k).0 ≡ at f (loaded_pair rule k).1

-- whatever places all rows joins all pairs
abbrev pub AllJoin : List (List ℕ) → LoadedRule → Type 0
AllJoin rel rule = (f : ℕ → ℕ) → AllPlaced rel rule f → Joins rule f

-- f and g give each left variable one number
abbrev pub SameLeft : LoadedRule → (ℕ → ℕ) → (ℕ → ℕ) → Type 0
SameLeft rule f g = (l : ℕ) → l < rule.left_count → at f (left_term rule l) ≡ at g (left_term rule l)

-- and each right term
abbrev pub SameRight : LoadedRule → (ℕ → ℕ) → (ℕ → ℕ) → Type 0
SameRight rule f g = (r : ℕ) → r < rule.pair_count → at f (loaded_pair rule r).0 ≡ at g (loaded_pair rule r).0

-- two placings that agree on the left agree on the right
abbrev pub AllAgree : List (List ℕ) → LoadedRule → Type 0
AllAgree rel rule = (f g : ℕ → ℕ) → AllPlaced rel rule f → AllPlaced rel rule g → SameLeft rule f g → SameRight rule f g

abbrev pub place : List ℕ → ℕ → ℕ
place p i = slice_index p i

-- both sides of each pair get one number, the first by f and the second by g
abbrev pub SameSides : LoadedRule → (ℕ → ℕ) → (ℕ → ℕ) → Type 0
SameSides rule f g = (k : ℕ) → k < rule.pair_count → at f (loaded_pair rule k).0 ≡ at g (loaded_pair rule k).1

-- the sides of pair k get the numbers a and b, which differ: the first by f and the second by g
pub record Parts (rule : LoadedRule) (f g : ℕ → ℕ) (k a b : ℕ) : Type 0 where
  pub within : k < rule.pair_count
  pub on_first : at f (loaded_pair rule k).0 ≡ a
  pub on_second : at g (loaded_pair rule k).1 ≡ b
  pub differ : a ≡ b → ⊥

-- a placing that splits a pair
pub record SplitAt (rel : List (List ℕ)) (rule : LoadedRule) (p : List ℕ) (k a b : ℕ) : Type 0 where
  pub f : ℕ → ℕ
  pub lands : (i : ℕ) → i < rule.row_count → Lands rel rule f i (place p i)
  pub splits : Parts rule f f k a b

-- two placings that agree on the left, and give a right term two numbers
pub record PartedAt (rel : List (List ℕ)) (rule : LoadedRule) (p q : List ℕ) (r a b : ℕ) : Type 0 where
  pub f : ℕ → ℕ
  pub g : ℕ → ℕ
  pub lands_first : (i : ℕ) → i < rule.row_count → Lands rel rule f i (place p i)
  pub lands_second : (i : ℕ) → i < rule.row_count → Lands rel rule g i (place q i)
  pub same : SameLeft rule f g
  pub parts : Parts rule f g r a b

-- Where symbols stand, and what a placing makes of them.

abbrev pub no_slot : Slot
no_slot = record { row = 0; column = 0 }

abbrev pub slot : Plan → ℕ → Slot
slot plan s = slice_index_or plan.origin s no_slot

-- the valuation that a placing makes: each symbol has the number where it first stands
abbrev pub filled : List (List ℕ) → Plan → List ℕ → ℕ → ℕ
filled rel plan p s = slice_index (slice_index_or rel (place p (slot plan s).row) []) (slot plan s).column

-- t is where the symbol s stands, in no row after i
pub record Origin (rule : LoadedRule) (s i : ℕ) (t : Slot) : Type 0 where
  pub early : t.row ≤ i
  pub inside : t.column < rule.width
  pub here : loaded_term rule t.row t.column ≡ Variable s

-- of row i's columns before n, the plan has where each symbol stands first
abbrev pub OriginsOf : LoadedRule → Plan → ℕ → ℕ → Type 0
OriginsOf rule plan i n = (j : ℕ) → j < n → (s : ℕ) → loaded_term rule i j ≡ Variable s → Origin rule s i (slot plan s)

-- of the rows from `low`
abbrev pub OriginsFrom : LoadedRule → Plan → ℕ → Type 0
OriginsFrom rule plan low = (i : ℕ) → low ≤ i → i < rule.row_count → OriginsOf rule plan i rule.width

abbrev pub Origins : LoadedRule → Plan → Type 0
Origins rule plan = OriginsFrom rule plan 0

abbrev pub RowsFit : LoadedRule → Plan → Type 0
RowsFit rule plan = (s : ℕ) → s < 64 → (slot plan s).row < rule.row_count

abbrev pub no_tests : Tests
no_tests = record { columns = []; count = 0 }

abbrev pub tests_at : Plan → ℕ → Tests
tests_at plan i = slice_index_or plan.tests i no_tests

-- the u-th column that is to be tested
abbrev pub column_at : Tests → ℕ → ℕ
column_at t u = slice_index t.columns u

-- t is a symbol that stands first in row i and column j
pub record FirstAt (plan : Plan) (t : Term) (i j : ℕ) : Type 0 where
  pub symbol : ℕ
  pub is : t ≡ Variable symbol
  pub row : (slot plan symbol).row ≡ i
  pub column : (slot plan symbol).column ≡ j

abbrev pub Own : LoadedRule → Plan → ℕ → ℕ → Type 0
Own rule plan i j = FirstAt plan (loaded_term rule i j) i j

-- of the first n columns of row i, t has each but those where a symbol stands first
pub record Leaves (rule : LoadedRule) (plan : Plan) (i : ℕ) (t : Tests) (n : ℕ) : Type 0 where
  pub few : t.count ≤ n
  pub inside : (u : ℕ) → u < t.count → column_at t u < n
  pub all : (j : ℕ) → j < n → ((u : ℕ) × (u < t.count) × (column_at t u ≡ j)) ⊎ Own rule plan i j

pub record Planned (rule : LoadedRule) (plan : Plan) : Type 0 where
  pub rows : RowsFit rule plan
  pub origins : Origins rule plan
  pub tests : (i : ℕ) → i < rule.row_count → Leaves rule plan i (tests_at plan i) rule.width

-- the placing's own valuation sends the first n rows to their places
abbrev pub Landed : List (List ℕ) → LoadedRule → Plan → List ℕ → ℕ → Type 0
Landed rel rule plan p n = (i : ℕ) → i < n → Lands rel rule (filled rel plan p) i (place p i)

-- P of all that sends the rows before `depth` to their places and the others somewhere
abbrev pub From : List (List ℕ) → LoadedRule → ℕ → List ℕ → ((ℕ → ℕ) → Type 0) → Type 0
From rel rule depth p P = (f : ℕ → ℕ) → ((i : ℕ) → i < depth → Lands rel rule f i (place p i)) → ((i : ℕ) → depth ≤ i → i < rule.row_count → Placed rel rule f i) → P f

-- the same of what also sends row `depth` to row k
abbrev pub With : List (List ℕ) → LoadedRule → ℕ → List ℕ → ℕ → ((ℕ → ℕ) → Type 0) → Type 0
With rel rule depth p k P = (f : ℕ → ℕ) → ((i : ℕ) → i < depth → Lands rel rule f i (place p i)) → Lands rel rule f depth k → ((i : ℕ) → depth ≤ i → i < rule.row_count → Placed rel rule f i) → P f

-- Which rows are tried.

-- how many there are
abbrev pub choice_count : Choices → ℕ
choice_count (All count) = count
choice_count (Picked rows count) = count

-- the m-th of them
abbrev pub chosen : Choices → ℕ → ℕ
chosen (All count) m = m
chosen (Picked rows count) m = slice_index rows m

-- at most eight are picked
abbrev pub Short : Choices → Type 0
Short (All count) = Unit {0}
Short (Picked rows count) = count ≤ 8

-- one of them is row k
abbrev pub Chosen : List (List ℕ) → Choices → ℕ → Type 0
Chosen rel d k = (m : ℕ) × (m < choice_count d) × (slice_index_or rel (chosen d m) [] ≡ slice_index_or rel k [])

-- d has the number of each different row
pub record Picks (rel : List (List ℕ)) (d : Choices) : Type 0 where
  pub few : choice_count d ≤ length rel
  pub short : Short d
  pub within : (m : ℕ) → m < choice_count d → chosen d m < length rel
  pub each : (k : ℕ) → k < length rel → Chosen rel d k

-- row k is equal to one of these
abbrev pub SameAsOne : List (List ℕ) → List ℕ → ℕ → ℕ → Type 0
SameAsOne rel rows count k = (m : ℕ) × (m < count) × (slice_index_or rel (slice_index rows m) [] ≡ slice_index_or rel k [])

-- each different row among the first n is one of these
pub record Distinct (rel : List (List ℕ)) (rows : List ℕ) (count n : ℕ) : Type 0 where
  pub few : count ≤ n
  pub within : (m : ℕ) → m < count → slice_index rows m < length rel
  pub each : (k : ℕ) → k < n → SameAsOne rel rows count k

-- how many choices there are for the rows from `depth`
abbrev pub choices : Choices → LoadedRule → ℕ → ℕ
choices d rule depth = choice_count d ^ (rule.row_count - depth)

-- The quick look.

-- whatever sends row i of the pattern to the relation gives the term t one number
abbrev pub OneValue : List (List ℕ) → LoadedRule → ℕ → Term → Type 0
OneValue rel rule i t = (f g : ℕ → ℕ) → Placed rel rule f i → Placed rel rule g i → at f t ≡ at g t

-- whatever places all rows gives the term t one number
abbrev pub Single : List (List ℕ) → LoadedRule → Term → Type 0
Single rel rule t = (f g : ℕ → ℕ) → AllPlaced rel rule f → AllPlaced rel rule g → at f t ≡ at g t

-- no valuation sends row i of the pattern to row k
abbrev pub Unlike : List (List ℕ) → LoadedRule → ℕ → ℕ → Type 0
Unlike rel rule i k = (f : ℕ → ℕ) → Lands rel rule f i k → ⊥

-- what sends row i of the pattern to one of the first n rows gives the term t the number x
abbrev pub Gives : List (List ℕ) → LoadedRule → ℕ → Term → ℕ → ℕ → Type 0
Gives rel rule i t n x = (k : ℕ) → k < n → (f : ℕ → ℕ) → Lands rel rule f i k → at f t ≡ x

abbrev pub AllUnlike : List (List ℕ) → LoadedRule → ℕ → ℕ → Type 0
AllUnlike rel rule i n = (k : ℕ) → k < n → Unlike rel rule i k

-- the number found so far
abbrev pub SoFar : List (List ℕ) → LoadedRule → ℕ → Term → ℕ → Option ℕ → Type 0
SoFar rel rule i t n None = AllUnlike rel rule i n
SoFar rel rule i t n (Some x) = Gives rel rule i t n x

-- each left and right term is a constant or stands in one of the first n rows
pub record Bounded (rule : LoadedRule) (n : ℕ) : Type 0 where
  pub few : n ≤ rule.row_count
  pub lefts : (l : ℕ) → l < rule.left_count → Early rule n (left_term rule l)
  pub rights : (r : ℕ) → r < rule.pair_count → Early rule n (loaded_pair rule r).0

-- The rows of a pattern in another order.

-- row j of `other` is row i of the rule
abbrev pub SameRow : LoadedRule → ℕ → LoadedRule → ℕ → Type 0
SameRow rule i other j = (c : ℕ) → c < rule.width → loaded_term other j c ≡ loaded_term rule i c

abbrev pub arranged : LoadedRule → List TermRow → LoadedRule
arranged rule rows = record {
  kind = rule.kind;
  width = rule.width;
  rows = rows;
  row_count = rule.row_count;
  left = rule.left;
  left_count = rule.left_count;
  pairs = rule.pairs;
  pair_count = rule.pair_count;
}

abbrev pub Somewhere : LoadedRule → LoadedRule → ℕ → Type 0
Somewhere rule other j = (i : ℕ) × (i < rule.row_count) × SameRow rule i other j

-- the rule with these rows in place of its own has the same rows; row i has become row `place places i`
pub record Rearranges (rule other : LoadedRule) (places : List ℕ) : Type 0 where
  pub back : (i : ℕ) → i < rule.row_count → (place places i < rule.row_count) × SameRow rule i other (place places i)
  pub each : (j : ℕ) → j < rule.row_count → Somewhere rule other j

-- q has p's rows at these places
abbrev pub PutsBack : List ℕ → ℕ → List ℕ → List ℕ → Type 0
PutsBack places n p q = (i : ℕ) → i < n → place q i ≡ place p (place places i)
