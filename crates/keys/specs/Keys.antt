-- Key lists, and what they mean.
use Rattle.std.specs.Prelude.{◌≡◌, ℕ, ◌/◌, ◌%◌, ◌^◌, ◌<◌, ◌≤◌, Bool, List, [], ◌∷◌, map, length, filter, ◌==◌, slice_index}
use Rattle.std.specs.List.{range_with_len}
use Rattle.rules.specs.declared.term.Term.{Term}
use Rattle.rules.specs.declared.term.Term.TheVariants.{Variable}
use Rattle.rules.specs.declared.term.Kind.TheVariants.{Functional}
use Rattle.rules.specs.Rules.{Rule}
use Rattle.rules.specs.Books.{BookMeaning}

-- bit j of a byte is set; bit 0 is the lowest
abbrev pub HasBit : ℕ → ℕ → Type 0
HasBit byte j = (byte / 2 ^ j) % 2 ≡ 1

abbrev pub has_bit : ℕ → ℕ → Bool
has_bit byte j = (byte / 2 ^ j) % 2 == 1

-- the columns below the width whose bits are set, rising
abbrev pub columns : ℕ → ℕ → List ℕ
columns width byte = filter (has_bit byte) (range_with_len 0 width)

-- the one row of the pattern: column j holds variable j
abbrev pub variables : ℕ → List Term
variables width = map Variable (range_with_len 0 width)

-- a variable as both sides of a pair
abbrev pub twice : ℕ → Term × Term
twice v = (Variable v, Variable v)

-- the rule of a pair of bytes: rows that agree in the columns of the first agree in the columns of the second
abbrev pub key_rule : ℕ → ℕ → ℕ → Rule
key_rule width left right = record {
  kind = Functional;
  pattern = variables width ∷ [];
  left = columns width left;
  pairs = map twice (columns width right);
}

-- a rule for each pair of bytes, in their order; a last byte without its other has none
abbrev pub key_rules : ℕ → List ℕ → List Rule
key_rules width [] = []
key_rules width (left ∷ []) = []
key_rules width (left ∷ right ∷ bytes) = key_rule width left right ∷ key_rules width bytes

abbrev pub keys_meaning : ℕ → List ℕ → BookMeaning
keys_meaning width bytes = record { width = width; rules = key_rules width bytes }

-- the bytes before a place are below a limit
abbrev pub AllBelow : ℕ → List ℕ → ℕ → Type 0
AllBelow limit bytes n = (i : ℕ) → i < n → slice_index bytes i < limit

-- a width that a book may have
abbrev pub Narrow : ℕ → Type 0
Narrow width = (1 ≤ width) × (width ≤ 8)

-- a width and a number of bytes that a key list may have
abbrev pub Shaped : ℕ → ℕ → Type 0
Shaped width count = Narrow width × (count ≤ 512) × (count % 2 ≡ 0)

-- a key list that passes the check
pub record SoundKeys (width : ℕ) (bytes : List ℕ) : Type 0 where
  pub some_width : 1 ≤ width
  pub small_width : width ≤ 8
  pub few : length bytes ≤ 512
  pub paired : length bytes % 2 ≡ 0
  pub low : (i : ℕ) → i < length bytes → slice_index bytes i < 2 ^ width
