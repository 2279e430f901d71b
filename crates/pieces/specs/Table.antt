-- The table of the fixed words.
use Rattle.std.specs.Prelude.{◌≡◌, ℕ, List, codes}
use Rattle.rules.specs.declared.refusal.Layer.{Layer}
use Rattle.rules.specs.declared.refusal.Layer.TheVariants as layer
use Rattle.pieces.specs.declared.word.Word.{Word}
use Rattle.pieces.specs.declared.word.Word.TheVariants as word

abbrev pub bytes_of : Word → List ℕ
bytes_of word.Targets = codes "targets"
bytes_of word.Target = codes "target"
bytes_of word.Follows = codes "follows"
bytes_of word.Fails = codes "fails"
bytes_of word.Rows = codes "rows"
bytes_of word.Refused = codes "refused"
bytes_of word.Reader = codes "reader"
bytes_of word.Book = codes "book"
bytes_of word.Join = codes "join"
bytes_of word.Trial = codes "trial"
bytes_of word.Report = codes "report"

-- the name of a layer
abbrev pub layer_word : Layer → Word
layer_word layer.Reader = word.Reader
layer_word layer.Book = word.Book
layer_word layer.Join = word.Join
layer_word layer.Trial = word.Trial
layer_word layer.Report = word.Report

abbrev pub NoTwoEqual : Type 0
NoTwoEqual = (a b : Word) → bytes_of a ≡ bytes_of b → a ≡ b
