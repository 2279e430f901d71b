-- Names that are parts of the text come back from the words that they name.
use Rattle.text.specs.Words.{name_of}
use Rattle.std.proofs.Common.{◌≡◌, ℕ, List, [], ◌∷◌, map, length, take, drop, refl, arith, length-drop}
use Rattle.std.specs.List.{AllByRecursion}
use Rattle.std.proofs.lemmas.List.{length-take-le}
use Rattle.text.specs.declared.words.Name.{Name}
use Rattle.reader.specs.Lists.{words_in, Inside}

pub names_back : (t : List ℕ) (ns : List Name) → AllByRecursion (Inside t) ns → map name_of (words_in t ns) ≡ ns
names_back t [] h = refl
names_back t (n ∷ ns) h =
    let long : length (take n.length (drop n.place t)) ≡ n.length = length-take-le n.length (drop n.place t) (omega (arith, length-drop n.place t, h.0)) in
    let rest = names_back t ns h.1 in
    (λ i. record { place = n.place; length = long i } ∷ rest i)
