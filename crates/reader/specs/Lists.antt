-- What lists of names name, as parts of the text.
use Rattle.std.specs.Prelude.{ℕ, ◌+◌, ◌≤◌, List, map, length}
use Rattle.text.specs.declared.list.Places.{Places}
use Rattle.text.specs.declared.words.Name.{Name}
use Rattle.text.specs.Filled.{room}
use Rattle.text.specs.Words.{Word, word_in}

-- the words that names name
abbrev pub words_in : List ℕ → List Name → List Word
words_in text ns = map (word_in text) ns

-- a name names a part of the text
abbrev pub Inside : List ℕ → Name → Type 0
Inside text n = n.place + n.length ≤ length text

-- the list has no more elements than it has room for
abbrev pub Within : {T : Type 0} → Places T → Type 0
Within l = l.used ≤ room l
