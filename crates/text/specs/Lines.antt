-- The lines of a text: it is split at each byte 10. A last line may lack that byte, and the empty text has no lines.
use Rattle.std.specs.Prelude.{ℕ, suc, Bool, cond, not, ◌&&◌, List, [], ◌∷◌, take, drop, ◌==◌, nat_le}
use Rattle.std.specs.List.{list_all}

-- a line: its place in the text, and its bytes
pub record Line : Type 0 where
  pub place : ℕ
  pub bytes : List ℕ

-- a byte that stands before another line, or at the end
abbrev pub begun : ℕ → ℕ → List Line → List Line
begun p b [] = record { place = p; bytes = b ∷ [] } ∷ []
begun p b (l ∷ ls) = record { place = p; bytes = b ∷ l.bytes } ∷ ls

abbrev pub in_line : ℕ → Bool
in_line b = not (b == 10)

-- the lines of a text that begins at p
abbrev pub lines_at : ℕ → List ℕ → List Line
lines_at p [] = []
lines_at p (b ∷ bs) = cond (in_line b) (begun p b (lines_at (suc p) bs)) (record { place = p; bytes = [] } ∷ lines_at (suc p) bs)

-- the lines of a text from the place `from` on
abbrev pub lines_from : List ℕ → ℕ → List Line
lines_from text from = lines_at from (drop from text)

-- the line of a text from the place `from` up to `end`
abbrev pub line_at : List ℕ → ℕ → ℕ → Line
line_at text from end = record { place = from; bytes = drop from (take end text) }

-- every byte stands between 0x20 and 0x7E
abbrev pub clean : List ℕ → Bool
clean bs = list_all (λ b. nat_le 32 b && nat_le b 126) bs
