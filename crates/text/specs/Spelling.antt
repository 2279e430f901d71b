-- What a line or a text spells, as a relation: the words in order with any spaces between and around, the lines in order.
use Rattle.std.specs.Prelude.{◌≡◌, ℕ, ◌+◌, ◌^◌, ◌<◌, ◌≤◌, ◌⊎◌, ◌↔◌, List, [], ◌∷◌, ◌++◌, length, replicate, Some, decimal, ◌≢◌}
use Rattle.std.specs.List.{AllByRecursion}
use Rattle.text.specs.Counts.{count_of}
use Rattle.text.specs.Lines.{Line, lines_at}
use Rattle.text.specs.Words.{Word, words_at}

-- a word has a byte, and no space
abbrev pub IsWord : List ℕ → Type 0
IsWord w = (0 < length w) × AllByRecursion (λ b. b ≢ 32) w

-- nothing, or what begins with a space
abbrev pub Apart : List ℕ → Type 0
Apart [] = Unit {0}
Apart (b ∷ bs) = b ≡ 32

-- the line bs, which begins at the place p, is the words ws, with spaces
abbrev pub Spaced : ℕ → List Word → List ℕ → Type 0
Spaced p [] bs = AllByRecursion (λ b. b ≡ 32) bs
Spaced p (w ∷ ws) bs = (k : ℕ) × (rest : List ℕ) × (bs ≡ replicate k 32 ++ (w.bytes ++ rest)) × (w.place ≡ p + k) × IsWord w.bytes × Apart rest × Spaced (p + k + length w.bytes) ws rest

-- The text bs, which begins at the place p, is the lines ls: each ends with the byte 10, which the last may lack if it
-- is not empty.
abbrev pub Lined : ℕ → List Line → List ℕ → Type 0
Lined p [] bs = bs ≡ []
Lined p (l ∷ ls) bs = (l.place ≡ p) × AllByRecursion (λ b. b ≢ 10) l.bytes × (((rest : List ℕ) × (bs ≡ l.bytes ++ 10 ∷ rest) × Lined (p + length l.bytes + 1) ls rest) ⊎ ((ls ≡ []) × (bs ≡ l.bytes) × (0 < length l.bytes)))

abbrev pub WordsAreSpelled : Type 0
WordsAreSpelled = (p : ℕ) (bs : List ℕ) (ws : List Word) → (words_at p bs ≡ ws) ↔ Spaced p ws bs

abbrev pub LinesAreSpelled : Type 0
LinesAreSpelled = (p : ℕ) (bs : List ℕ) (ls : List Line) → (lines_at p bs ≡ ls) ↔ Lined p ls bs

-- a count is what is written of its number
abbrev pub CountsAreSpelled : Type 0
CountsAreSpelled = (low high n : ℕ) (w : List ℕ) → high < 2 ^ 32 → (count_of low high w ≡ Some n) ↔ ((w ≡ decimal n) × (low ≤ n) × (n ≤ high))
