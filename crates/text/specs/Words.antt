-- The words of a line: the longest runs of bytes that are no spaces.
use Rattle.std.specs.Prelude.{ℕ, suc, ◌+◌, ◌-◌, ◌<◌, ◌≤◌, Bool, false, cond, not, ◌&&◌, List, [], ◌∷◌, ◌++◌, map, length, take, drop, ◌==◌, nat_le}
use Rattle.std.specs.List.{prefix_len}
use Rattle.std.specs.Str.{bytes_eq}
use Rattle.text.specs.declared.words.Name.{Name}

-- a word: its place in the text, and its bytes
pub record Word : Type 0 where
  pub place : ℕ
  pub bytes : List ℕ

abbrev pub is_space : ℕ → Bool
is_space b = b == 32

abbrev pub in_word : ℕ → Bool
in_word b = not (b == 32)

-- the word cur, if it has a byte, ends at p
abbrev pub closed : ℕ → List ℕ → List Word → List Word
closed p [] ws = ws
closed p (c ∷ cs) ws = record { place = p - length (c ∷ cs); bytes = c ∷ cs } ∷ ws

-- the words of what is left, which begins at p; cur has the bytes of the word that is under way
abbrev pub words_from : ℕ → List ℕ → List ℕ → List Word
words_from p cur [] = closed p cur []
words_from p cur (b ∷ bs) = cond (in_word b) (words_from (suc p) (cur ++ b ∷ []) bs) (closed p cur (words_from (suc p) [] bs))

-- the words of a line that begins at p
abbrev pub words_at : ℕ → List ℕ → List Word
words_at p bs = words_from p [] bs

-- the words of the line of a text from the place `from` up to `end`
abbrev pub line_words : List ℕ → ℕ → ℕ → List Word
line_words text from end = words_at from (drop from (take end text))

-- the part of a text that a name names
abbrev pub part : List ℕ → Name → List ℕ
part text n = take n.length (drop n.place text)

abbrev pub word_in : List ℕ → Name → Word
word_in text n = record { place = n.place; bytes = part text n }

-- the name that a word has in its text
abbrev pub name_of : Word → Name
name_of w = record { place = w.place; length = length w.bytes }

-- the name of a word of the line of a text from the place `from` up to `end`
pub record Stands (text : List ℕ) (from end : ℕ) (n : Name) : Type 0 where
  pub after : from ≤ n.place
  pub filled : 0 < n.length
  pub within : n.place + n.length ≤ end
  pub inside : n.place + n.length ≤ length text

-- the bytes of words
abbrev pub bytes_of : List Word → List (List ℕ)
bytes_of ws = map (λ w. w.bytes) ws

-- two words are one constant, or one variable: they have the same bytes
abbrev pub same_word : List ℕ → List ℕ → Bool
same_word a b = bytes_eq a b

abbrev pub differs : List ℕ → List ℕ → Bool
differs key bytes = not (same_word bytes key)

-- a word's number by first appearance: how many of the words seen are others, from the first on
abbrev pub number_in : List (List ℕ) → List ℕ → ℕ
number_in seen key = prefix_len (differs key) seen

-- a variable begins with $
abbrev pub is_variable : List ℕ → Bool
is_variable [] = false
is_variable (b ∷ bs) = b == 36

abbrev pub is_dollar : List ℕ → Bool
is_dollar [] = false
is_dollar (b ∷ []) = b == 36
is_dollar (b ∷ c ∷ bs) = false

-- a word of a row, a list or a pair has at most 24 bytes, and $ alone fits nowhere
abbrev pub is_term : List ℕ → Bool
is_term bytes = nat_le (length bytes) 24 && not (is_dollar bytes)
