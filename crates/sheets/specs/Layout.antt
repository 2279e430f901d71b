-- How a book is written down as words.
use Rattle.std.specs.Prelude.{ℕ, ◌+◌, List, [], ◌∷◌, ◌++◌, map, length}
use Rattle.std.specs.List.{flat_map}
use Rattle.rules.specs.Rules.{Rule}
use Rattle.rules.specs.Books.{BookMeaning, base}
use Rattle.rules.specs.declared.term.Term.{Term}
use Rattle.rules.specs.declared.term.Term.TheVariants.{Constant, Variable}
use Rattle.rules.specs.declared.term.Kind.{Kind}
use Rattle.rules.specs.declared.term.Kind.TheVariants.{Functional, Equality}

-- the word of a term, and of a kind
abbrev pub word_of : Term → ℕ
word_of (Constant c) = c
word_of (Variable v) = base + v

abbrev pub kind_word : Kind → ℕ
kind_word Functional = 1
kind_word Equality = 2

-- a functional pair is one variable, which stands twice in it; an equality pair is two terms
abbrev pub pair_words : Kind → Term × Term → List ℕ
pair_words Functional p = word_of p.0 ∷ []
pair_words Equality p = word_of p.0 ∷ word_of p.1 ∷ []

abbrev pub left_words : ℕ → List ℕ
left_words v = (base + v) ∷ []

-- the lists of a rule, each after its count; the whole rule, its rows one after another; and the whole book
unfoldable pub layout_lists : Rule → List ℕ
layout_lists r = length r.left ∷ (flat_map left_words r.left ++ (length r.pairs ∷ flat_map (pair_words r.kind) r.pairs))

unfoldable pub layout_rule : Rule → List ℕ
layout_rule r = kind_word r.kind ∷ (length r.pattern ∷ (flat_map (map word_of) r.pattern ++ layout_lists r))

unfoldable pub layout : BookMeaning → List ℕ
layout b = b.width ∷ (length b.rules ∷ flat_map layout_rule b.rules)
