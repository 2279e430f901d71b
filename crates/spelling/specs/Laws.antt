-- The laws of reading.
use Rattle.std.specs.Prelude.{◌≡◌, ℕ, ◌+◌, ◌-◌, ◌≤◌, ◌⊎◌, List, map, length, take, Ok, Err, Result, ◌≢◌}
use Rattle.text.specs.Lines.{lines_at}
use Rattle.reader.specs.declared.fault.Cause.{Cause}
use Rattle.reader.specs.declared.fault.Cause.TheVariants.{Byte, Form, Count, Unknown, Room, Lines}
use Rattle.reader.specs.declared.fault.ReadFault.{ReadFault}
use Rattle.reader.specs.declared.desk.Sizes.{Sizes}
use Rattle.reader.specs.Lists.{words_in}
use Rattle.reader.specs.Reads.{Lengths, Holds, Blank, padded, no_name}
use Rattle.rules.specs.Books.{BookMeaning}
use Rattle.sheets.specs.Layout.{layout}
use Rattle.sheets.specs.Laws.{Fitting}
use Rattle.sheets.specs.Reads.{sheet_meaning}
use Rattle.sheets.specs.Walk.{sheet_end}
use Rattle.text.specs.Words.{name_of, Word}
use Rattle.text.specs.declared.words.Name.{Name}
use Rattle.reader.specs.Format.{Rooms, Memo, read_text}
use Rattle.spelling.specs.Draft.{Draft, Spells, LinesSpell, put_down}
use Rattle.spelling.specs.Book.{SpellsBook, book_of, targets_of}

-- a text that is read spells what it is read as
abbrev pub ReadSpells : Type 0
ReadSpells = (rooms : Rooms) (text : List ℕ) (m : Memo) → read_text rooms text ≡ Ok m → (d : Draft) × Spells text d × (m ≡ put_down d)

-- a text that spells and is short enough is read as what it spells, or no place is left
abbrev pub SpelledReads : Type 0
SpelledReads = (rooms : Rooms) (text : List ℕ) (d : Draft) → length text ≤ 65536 → Spells text d → (read_text rooms text ≡ Ok (put_down d)) ⊎ ((n : ℕ) × (read_text rooms text ≡ Err (record { cause = Room; line = n })))

-- no text spells two things
abbrev pub SpellsOne : Type 0
SpellsOne = (text : List ℕ) (d e : Draft) → Spells text d → Spells text e → put_down d ≡ put_down e

-- refused for a byte, a form, a count or a variable at line n: no text with the same first n lines spells anything
abbrev pub RefusedSpellsNothing : Type 0
RefusedSpellsNothing = (rooms : Rooms) (text other : List ℕ) (e : Cause) (n : ℕ) → read_text rooms text ≡ Err (record { cause = e; line = n }) → (e ≢ Room) → (e ≢ Lines) → take n (lines_at 0 other) ≡ take n (lines_at 0 text) → (d : Draft) → Spells other d → ⊥

-- refused for its lines at line n: the text lacks its line n, or its first n − 1 lines already spell the whole
abbrev pub RefusedLines : Type 0
RefusedLines = (rooms : Rooms) (text : List ℕ) (n : ℕ) → read_text rooms text ≡ Err (record { cause = Lines; line = n }) → (n ≡ length (lines_at 0 text) + 1) ⊎ ((d : Draft) × LinesSpell (take (n - 1) (lines_at 0 text)) d)

-- no text with the same first n lines spells anything
abbrev pub Hopeless : List ℕ → ℕ → Type 0
Hopeless text n = (other : List ℕ) → take n (lines_at 0 other) ≡ take n (lines_at 0 text) → (d : Draft) → Spells other d → ⊥

-- what a refusal says of the text; of no place left the reader's own definition says where
abbrev pub Why : List ℕ → ℕ → Cause → Type 0
Why text n Byte = Hopeless text n
Why text n Form = Hopeless text n
Why text n Count = Hopeless text n
Why text n Unknown = Hopeless text n
Why text n Room = Unit {0}
Why text n Lines = (n ≡ length (lines_at 0 text) + 1) ⊎ ((d : Draft) × LinesSpell (take (n - 1) (lines_at 0 text)) d)

-- the places hold a book and its targets laid out as sheets, and the names, and else zero
pub record LaidOut (text : List ℕ) (n : Lengths) (book aims : BookMeaning) (known : List Word) (rs ts : List ℕ) (ns : List Name) : Type 0 where
  pub rules : rs ≡ padded n.rules 0 (layout book)
  pub targets : ts ≡ padded n.targets 0 (layout aims)
  pub names : ns ≡ padded n.names no_name (map name_of known)
  pub parts : words_in text (map name_of known) ≡ known

-- these words pass the sheet's check and open as this book
pub record OpensAs (words : List ℕ) (book : BookMeaning) : Type 0 where
  pub fitting : Fitting book
  pub passes : sheet_end words ≡ Ok (length (layout book))
  pub means : sheet_meaning words ≡ book

-- the text spells a book and targets, one only, and the places hold what it spells, in sheets that open as that
pub record Told (text : List ℕ) (n : Lengths) (s : Sizes) (rs ts : List ℕ) (ns : List Name) : Type 0 where
  pub draft : Draft
  pub spells : Spells text draft
  pub holds : (d : Draft) → Spells text d → Holds text n (put_down d) s rs ts ns
  pub spelled : SpellsBook text (book_of draft) (targets_of draft) (put_down draft).names
  pub alone : (b t : BookMeaning) (ns : List Word) (c u : BookMeaning) (ms : List Word) → SpellsBook text b t ns → SpellsBook text c u ms → (b ≡ c) × (t ≡ u) × (ns ≡ ms)
  pub opens : (book targets : BookMeaning) (names : List Word) → SpellsBook text book targets names → OpensAs rs book × OpensAs ts targets
  pub laid_out : (book targets : BookMeaning) (names : List Word) → SpellsBook text book targets names → LaidOut text n book targets names rs ts ns

-- all places are zero, and the refusal says why; a text that spells something is refused only for want of room
pub record TurnedDown (text : List ℕ) (n : Lengths) (e : ReadFault) (rs ts : List ℕ) (ns : List Name) : Type 0 where
  pub blank : Blank n rs ts ns
  pub why : Why text e.line e.cause
  pub only_room : (d : Draft) → Spells text d → e.cause ≡ Room

abbrev pub Tells : List ℕ → Lengths → Result Sizes ReadFault → List ℕ → List ℕ → List Name → Type 0
Tells text n (Ok s) rs ts ns = Told text n s rs ts ns
Tells text n (Err e) rs ts ns = TurnedDown text n e rs ts ns
