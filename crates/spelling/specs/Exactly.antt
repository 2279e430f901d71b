-- Reading exactly: a text is read if and only if it is short enough and spells what fits in, and as that; it is refused for
-- want of room exactly where what its lines put down first passes the places.
use Rattle.std.specs.Prelude.{◌≡◌, ℕ, ◌<◌, ◌≤◌, ◌⊎◌, ◌↔◌, List, length, Ok, Err, Result}
use Rattle.text.specs.Words.{Word}
use Rattle.rules.specs.Books.{BookMeaning}
use Rattle.reader.specs.declared.fault.Cause.TheVariants.{Room}
use Rattle.reader.specs.declared.fault.ReadFault.{ReadFault}
use Rattle.reader.specs.declared.desk.Sizes.{Sizes}
use Rattle.reader.specs.Reads.{Lengths, rooms_in}
use Rattle.reader.specs.Format.{Memo, read_text}
use Rattle.spelling.specs.Draft.{Draft, Spells, put_down}
use Rattle.spelling.specs.Book.{SpellsBook}
use Rattle.spelling.specs.Room.{FitsIn, NoRoom}

-- a text that is read is short enough, and what is read of it fits in
abbrev pub ReadFits : Type 0
ReadFits = (lent : Lengths) (text : List ℕ) (m : Memo) → read_text (rooms_in lent) text ≡ Ok m → (length text ≤ 65536) × FitsIn lent m

-- a text that is short enough and spells what fits in is read as what it spells
abbrev pub FittingReads : Type 0
FittingReads = (lent : Lengths) (text : List ℕ) (d : Draft) → length text ≤ 65536 → Spells text d → FitsIn lent (put_down d) → read_text (rooms_in lent) text ≡ Ok (put_down d)

-- the text spells one draft at most, and so one book, one list of targets and one list of names
pub record One (text : List ℕ) : Type 0 where
  pub draft : (d e : Draft) → Spells text d → Spells text e → d ≡ e
  pub book : (b t : BookMeaning) (ns : List Word) (c u : BookMeaning) (ms : List Word) → SpellsBook text b t ns → SpellsBook text c u ms → (b ≡ c) × (t ≡ u) × (ns ≡ ms)

-- no text spells two drafts, nor two books
abbrev pub SpellsOneBook : Type 0
SpellsOneBook = (text : List ℕ) → One text

-- refused for want of a place at line n, exactly if the text is too long or its line n finds no place
abbrev pub RefusedRoom : Type 0
RefusedRoom = (lent : Lengths) (text : List ℕ) (n : ℕ) → (read_text (rooms_in lent) text ≡ Err (record { cause = Room; line = n })) ↔ NoRoom text lent n

-- of a text that is read: it is short enough, and what it spells fits in
pub record ReadWithin (text : List ℕ) (n : Lengths) : Type 0 where
  pub short : length text ≤ 65536
  pub fits : (d : Draft) → Spells text d → FitsIn n (put_down d)

-- of a refusal: for want of room it says where there is none, and a text that spells something is refused only if it is
-- too long or that does not fit in
pub record RefusedFor (text : List ℕ) (n : Lengths) (e : ReadFault) : Type 0 where
  pub room : e.cause ≡ Room → NoRoom text n e.line
  pub passes : (d : Draft) → Spells text d → (65536 < length text) ⊎ (FitsIn n (put_down d) → ⊥)

abbrev pub TellsExactly : List ℕ → Lengths → Result Sizes ReadFault → Type 0
TellsExactly text n (Ok s) = ReadWithin text n
TellsExactly text n (Err e) = RefusedFor text n e
