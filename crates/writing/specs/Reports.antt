-- A report and a refusal as text.
use Rattle.std.specs.Prelude.{ℕ, ◌+◌, ◌-◌, cond, List, [], ◌∷◌, map, length, nat_lt, slice_index_or}
use Rattle.std.specs.List.{flat_map}
use Rattle.rules.specs.Books.{base}
use Rattle.rules.specs.declared.refusal.Refusal.{Refusal}
use Rattle.text.specs.declared.words.Name.{Name}
use Rattle.pieces.specs.declared.word.Word.{Word}
use Rattle.pieces.specs.declared.word.Word.TheVariants as word
use Rattle.pieces.specs.declared.piece.Piece.{Piece}
use Rattle.pieces.specs.declared.piece.Piece.TheVariants.{Fixed, Number, Named, Symbol}
use Rattle.pieces.specs.Table.{layer_word}
use Rattle.pieces.specs.Lines.{line_of}
use Rattle.writing.specs.Outcomes.{Outcome, Follows, Fails}

-- lines one after another
abbrev pub lines_text : List ℕ → List (List Piece) → List ℕ
lines_text text ls = flat_map (line_of text) ls

-- the name of a number that has none spells nothing
abbrev pub no_name : Name
no_name = record { place = 0; length = 0 }

-- a constant by its name, another entry as `$` and its symbol
abbrev pub entry_piece : List Name → ℕ → Piece
entry_piece names e = cond (nat_lt e base) (Named (slice_index_or names e no_name)) (Symbol (e - base))

abbrev pub row_line : List Name → List ℕ → List Piece
row_line names row = map (entry_piece names) row

abbrev pub count_line : Word → ℕ → List Piece
count_line w n = Fixed w ∷ Number n ∷ []

abbrev pub verdict_line : ℕ → Word → List Piece
verdict_line i w = Fixed word.Target ∷ Number i ∷ Fixed w ∷ []

abbrev pub rows_lines : List Name → List (List ℕ) → List (List Piece)
rows_lines names rows = count_line word.Rows (length rows) ∷ map (row_line names) rows

-- the lines of target i
abbrev pub target_lines : List Name → ℕ → Outcome → List (List Piece)
target_lines names i Follows = verdict_line i word.Follows ∷ []
target_lines names i (Fails rows) = verdict_line i word.Fails ∷ rows_lines names rows

abbrev pub target_text : List ℕ → List Name → ℕ → Outcome → List ℕ
target_text text names i o = lines_text text (target_lines names i o)

-- the lines of the targets from number i on
abbrev pub target_texts : List ℕ → List Name → ℕ → List Outcome → List (List ℕ)
target_texts text names i [] = []
target_texts text names i (o ∷ os) = target_text text names i o ∷ target_texts text names (i + 1) os

abbrev pub first_line : ℕ → List ℕ
first_line many = line_of [] (count_line word.Targets many)

-- the report in its parts: the first line, and the lines of each target, from 1
abbrev pub parts : List ℕ → List Name → List Outcome → List (List ℕ)
parts text names os = first_line (length os) ∷ target_texts text names 1 os

-- the line of a refusal: its number, its layer and its place
abbrev pub refusal_text : Refusal → List ℕ
refusal_text r = line_of [] (Fixed word.Refused ∷ Number r.number ∷ Fixed (layer_word r.layer) ∷ Number r.place ∷ [])
