-- A book in words, byte by byte.
use Rattle.std.specs.Prelude.{ℕ, ◌+◌, List, [], ◌∷◌, ◌++◌, codes, decimal, Option, slice_index_or}
use Rattle.std.specs.List.{flat_map, slice_get}
use Rattle.rules.specs.declared.term.Term.{Term}
use Rattle.rules.specs.declared.term.Term.TheVariants.{Variable}
use Rattle.rules.specs.declared.term.Kind.{Kind}
use Rattle.rules.specs.declared.term.Kind.TheVariants.{Functional, Equality}
use Rattle.rules.specs.Rules.{Rule}
use Rattle.rules.specs.Printed.{kind_name, term_name}

-- a term after a space: a constant as its number, a variable as `$` and its number
abbrev pub term_text : Term → List ℕ
term_text t = codes " " ++ term_name t

abbrev pub left_text : ℕ → List ℕ
left_text v = term_text (Variable v)

-- a right variable is the first side of its pair
abbrev pub right_text : Term × Term → List ℕ
right_text p = term_text p.0

abbrev pub pair_text : Term × Term → List ℕ
pair_text p = codes "  pair" ++ (term_text p.0 ++ (codes " =" ++ (term_text p.1 ++ codes "\n")))

abbrev pub row_text : List Term → List ℕ
row_text row = codes "  row" ++ (flat_map term_text row ++ codes "\n")

abbrev pub kind_text : Kind → List ℕ
kind_text k = kind_name k ++ codes "\n"

-- what follows the rows
abbrev pub lists_text : Kind → Rule → List ℕ
lists_text Functional r = codes "  left" ++ (flat_map left_text r.left ++ (codes "\n  right" ++ (flat_map right_text r.pairs ++ codes "\n")))
lists_text Equality r = flat_map pair_text r.pairs

-- rule number i: a line with its number and kind, its rows, and its lists
unfoldable pub rule_text : ℕ → Rule → List ℕ
rule_text i r = (codes "rule " ++ (decimal i ++ codes ": ")) ++ (kind_text r.kind ++ (flat_map row_text r.pattern ++ lists_text r.kind r))

-- the rules from number i on
abbrev pub rules_text : ℕ → List Rule → List ℕ
rules_text i [] = []
rules_text i (r ∷ rules) = rule_text i r ++ rules_text (i + 1) rules

-- the rule with a number that a list has, and a row of a rule
abbrev pub no_rule : Rule
no_rule = record { kind = Equality; pattern = []; left = []; pairs = [] }

abbrev pub rule_here : List Rule → ℕ → Rule
rule_here rules i = slice_index_or rules i no_rule

abbrev pub row_at : Rule → ℕ → Option (List Term)
row_at r row = slice_get r.pattern row
