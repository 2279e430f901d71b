-- A line as its pieces.
use Rattle.std.specs.Prelude.{ℕ, List, [], ◌∷◌, ◌++◌, decimal}
use Rattle.text.specs.Words.{part}
use Rattle.pieces.specs.declared.piece.Piece.{Piece}
use Rattle.pieces.specs.declared.piece.Piece.TheVariants.{Fixed, Number, Named, Symbol}
use Rattle.pieces.specs.Table.{bytes_of}

-- how a piece is written: a fixed word by its bytes, a number in decimal, a name as that part of the text, a symbol
-- after `$`
abbrev pub spell : List ℕ → Piece → List ℕ
spell text (Fixed w) = bytes_of w
spell text (Number n) = decimal n
spell text (Named n) = part text n
spell text (Symbol n) = 36 ∷ decimal n

-- each piece after a space, and the line's end
abbrev pub after : List ℕ → List Piece → List ℕ
after text [] = 10 ∷ []
after text (p ∷ ps) = 32 ∷ (spell text p ++ after text ps)

-- pieces with one space between, and the line's end
abbrev pub line_of : List ℕ → List Piece → List ℕ
line_of text [] = 10 ∷ []
line_of text (p ∷ ps) = spell text p ++ after text ps
