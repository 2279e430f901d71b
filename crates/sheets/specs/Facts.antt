-- Facts about words that the functions of this crate hand to one another, and that an opened sheet keeps.
-- No one outside needs them.
use Rattle.std.specs.Prelude.{◌≡◌, ℕ, zero, suc, ◌+◌, ◌*◌, ◌<◌, ◌≤◌, true, List, length, Ok, slice_index, slice_index_or}
use Rattle.rules.specs.Books.{base}
use Rattle.sheets.specs.Walk.{limit, is_listed, part, most_left, pair_size, pair_want, sheet_end}
use Rattle.sheets.specs.Reads.{left_place, pair_place, end_of, sheet_meaning}

-- the rule that begins at a place lies within the words, and each of its words is what is wanted there
pub record Whole (words : List ℕ) (width at : ℕ) : Type 0 where
  pub narrow : width ≤ 8
  pub left_is : left_place words width at ≡ at + 2 + slice_index words (at + 1) * width
  pub pair_is : pair_place words width at ≡ left_place words width at + 1 + slice_index words (left_place words width at)
  pub end_is : end_of words width at ≡ pair_place words width at + 1 + slice_index words (pair_place words width at) * pair_size (slice_index words at)
  pub inside : end_of words width at ≤ length words
  pub some_kind : 1 ≤ slice_index words at
  pub few_kinds : slice_index_or words at 0 ≤ 2
  pub some_row : 1 ≤ slice_index words (at + 1)
  pub few_rows : slice_index_or words (at + 1) 0 ≤ 4
  pub entries : (p : ℕ) → at + 2 ≤ p → p < left_place words width at → slice_index words p < limit
  pub few_left : slice_index_or words (left_place words width at) 0 ≤ most_left (slice_index words at)
  pub lefts : (p : ℕ) → left_place words width at + 1 ≤ p → p < pair_place words width at → is_listed (part words (at + 2) (left_place words width at)) (slice_index words p) ≡ true
  pub lefts_from : (p : ℕ) → left_place words width at + 1 ≤ p → p < pair_place words width at → base ≤ slice_index words p
  pub lefts_below : (p : ℕ) → left_place words width at + 1 ≤ p → p < pair_place words width at → slice_index words p < limit
  pub few_pairs : slice_index_or words (pair_place words width at) 0 ≤ 32
  pub sides : (p : ℕ) → pair_place words width at + 1 ≤ p → p < end_of words width at → pair_want (slice_index words at) (part words (at + 2) (left_place words width at)) (slice_index words p) ≡ true
  pub sides_below : (p : ℕ) → pair_place words width at + 1 ≤ p → p < end_of words width at → slice_index words p < limit

-- where the rule with a number begins, if the first begins at a place; and that so each of so many does
abbrev pub start_of : List ℕ → ℕ → ℕ → ℕ → ℕ
start_of words width zero at = at
start_of words width (suc i) at = start_of words width i (end_of words width at)

abbrev pub Starts : List ℕ → ℕ → ℕ → List ℕ → Type 0
Starts words width count starts = (i : ℕ) → i < count → slice_index starts i ≡ start_of words width i 2

-- the sheet passes, and these are its width, its count and where its rules begin
pub record Tabled (words : List ℕ) (width count : ℕ) (starts : List ℕ) : Type 0 where
  pub passes_at : ℕ
  pub passing : sheet_end words ≡ Ok passes_at
  pub width_is : width ≡ slice_index words 0
  pub count_is : count ≡ slice_index words 1
  pub narrow : width ≤ 8
  pub few : count ≤ 256
  pub starts_are : Starts words width count starts

-- what an opened sheet keeps beside its words: facts that are propositions
abbrev pub Wide : List ℕ → ℕ → Type 0
Wide words width = (sheet_meaning words).width ≡ width

abbrev pub Counted : List ℕ → ℕ → Type 0
Counted words count = length (sheet_meaning words).rules ≡ count

pub record Opened (words : List ℕ) (width count : ℕ) (starts : List ℕ) : Type 0 where
  pub wide : Wide words width
  pub counted : Counted words count
  pub started : Starts words width count starts
