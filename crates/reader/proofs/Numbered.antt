-- Words by their numbers.
use Rattle.std.proofs.Common.{◌≡◌, ℕ, ◌≤◌, min, List, [], ◌∷◌, map, length, refl, ap, le_trans}
use native.Mathlib.Nat.{min-le_left}
use Rattle.std.proofs.lemmas.List.{length-take-le}
use Rattle.text.specs.declared.list.Places.{Places}
use Rattle.text.specs.declared.words.Name.{Name}
use Rattle.text.specs.Filled.{items, room, Same}
use Rattle.text.specs.Words.{part, bytes_of}
use Rattle.reader.specs.Lists.{words_in, Within}

pub bytes_words_in : (t : List ℕ) (ns : List Name) → bytes_of (words_in t ns) ≡ map (part t) ns
bytes_words_in t [] = refl
bytes_words_in t (n ∷ ns) = ap (λ xs. part t n ∷ xs) (bytes_words_in t ns)

pub within-places : {T : Type 0} (l : Places T) → Within l → l.used ≤ length l.places.now
within-places l h = le_trans h (min-le_left (length l.places.now) 4096)

pub length-items : {T : Type 0} (l : Places T) → Within l → length (items l) ≡ l.used
length-items l h = length-take-le l.used l.places.now (within-places l h)

pub room-same : {T : Type 0} {a b : Places T} → Same a b → room b ≡ room a
room-same h = ap (λ n. min n 4096) h.size
