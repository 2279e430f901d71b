-- The rule that a loaded rule means.
use Rattle.std.specs.Prelude.{◌≡◌, ℕ, ◌-◌, ◌<◌, ◌≤◌, cond, List, [], map, length, Some, None, Option, nat_lt, slice_index, slice_index_or}
use Rattle.std.specs.List.{range_with_len, slice_get}
use Rattle.rules.specs.declared.term.Term.{Term}
use Rattle.rules.specs.declared.term.Term.TheVariants.{Constant, Variable}
use Rattle.rules.specs.declared.loaded.TermRow.{TermRow}
use Rattle.rules.specs.declared.loaded.LoadedRule.{LoadedRule}
use Rattle.rules.specs.Rules.{◌∈◌, Rule}
use Rattle.rules.specs.Books.{base, BookMeaning, Known, Small, WellFormed}
use Rattle.rules.specs.Doubled.{doubled}

-- the term of a code
unfoldable pub term_of : ℕ → Term
term_of c = cond (nat_lt c base) (Constant c) (Variable (c - base))

-- the code of a term
abbrev pub Codes : Term → ℕ → Type 0
Codes t c = Small t → term_of c ≡ t

abbrev pub no_term : Term
no_term = Constant 0

abbrev pub no_row : TermRow
no_row = record { terms = [] }

-- the term in row i and column j
abbrev pub loaded_term : LoadedRule → ℕ → ℕ → Term
loaded_term l i j = slice_index_or (slice_index_or l.rows i no_row).terms j no_term

-- pair k
abbrev pub loaded_pair : LoadedRule → ℕ → Term × Term
loaded_pair l k = slice_index_or l.pairs k (no_term, no_term)

-- left variable k
abbrev pub left_var : LoadedRule → ℕ → ℕ
left_var l k = slice_index l.left k

abbrev pub meant_row : LoadedRule → ℕ → List Term
meant_row l i = map (loaded_term l i) (range_with_len 0 l.width)

-- the rule that it means
abbrev pub meant : LoadedRule → Rule
meant l = record {
  kind = l.kind;
  pattern = map (meant_row l) (range_with_len 0 l.row_count);
  left = map (left_var l) (range_with_len 0 l.left_count);
  pairs = map (loaded_pair l) (range_with_len 0 l.pair_count);
}

-- a constant, or one of the 64 symbols of a doubled form
abbrev pub Symbolic : Term → Type 0
Symbolic (Constant c) = c < base
Symbolic (Variable s) = s < 64

-- what may be searched for, of this width: at most eight rows over 64 symbols; a pair has constants and symbols of the rows
pub record Form (width : ℕ) (r : Rule) : Type 0 where
  pub some_row : 1 ≤ length r.pattern
  pub few_rows : length r.pattern ≤ 8
  pub small_width : width ≤ 8
  pub of_width : (row : List Term) → row ∈ r.pattern → length row ≡ width
  pub small : (row : List Term) → row ∈ r.pattern → (t : Term) → t ∈ row → Symbolic t
  pub few_pairs : length r.pairs ≤ 32
  pub pairs_known : (p : Term × Term) → p ∈ r.pairs → Known r.pattern p.0 × Known r.pattern p.1

-- a loaded rule of a book
pub record OfBook (l : LoadedRule) : Type 0 where
  pub width : l.width ≤ 8
  pub fits : WellFormed l.width (meant l)

-- l is rule i of the book
pub record Loaded (b : BookMeaning) (i : ℕ) (l : LoadedRule) : Type 0 where
  pub is : slice_get b.rules i ≡ Some (meant l)
  pub width : l.width ≡ b.width
  pub of_book : OfBook l

-- d is the doubled form of rule i of the book
pub record DoubledOf (b : BookMeaning) (i : ℕ) (d : LoadedRule) : Type 0 where
  pub rule : Rule
  pub there : slice_get b.rules i ≡ Some rule
  pub is : meant d ≡ doubled rule
  pub width : d.width ≡ b.width
  pub form : Form b.width (meant d)

-- below: how a rule is read and doubled

-- its counts are within its arrays
pub record Sized (l : LoadedRule) : Type 0 where
  pub width : l.width ≤ 8
  pub rows : l.row_count ≤ 4
  pub lefts : l.left_count ≤ 32
  pub pairs : l.pair_count ≤ 32

-- the first `count` of these places hold the answers, and there is no further one unless the places are full
pub record Filled {X : Type 0} (asks : ℕ → Option X → Type 0) (places : List X) (count : ℕ) : Type 0 where
  pub few : count ≤ length places
  pub each : (k : ℕ) → k < count → (x : X) × asks k (Some x) × (slice_get places k ≡ Some x)
  pub all : count < length places → asks count None
