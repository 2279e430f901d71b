-- The book and the targets that a draft means.
use Rattle.std.specs.Prelude.{◌≡◌, ℕ, cond, List, [], ◌∷◌, ◌++◌, map, length}
use Rattle.text.specs.Words.{Word, is_variable}
use Rattle.rules.specs.Rules.{Rule}
use Rattle.rules.specs.Books.{BookMeaning}
use Rattle.rules.specs.declared.term.Kind.{Kind}
use Rattle.rules.specs.declared.term.Kind.TheVariants.{Functional, Equality}
use Rattle.rules.specs.declared.term.Term.{Term}
use Rattle.rules.specs.declared.term.Term.TheVariants.{Constant, Variable}
use Rattle.sheets.specs.Layout.{kind_word}
use Rattle.reader.specs.declared.desk.Counting.TheVariants as counting
use Rattle.reader.specs.Format.{Memo, number_of}
use Rattle.spelling.specs.Draft.{RuleDraft, Draft, Spells, extend, put, puts, put_number, put_list, after_rows, put_rule, rules_memo, targets_memo, put_down}

-- the term that a word is: a variable by its number in the rule, a constant by its number in the text
abbrev pub term_in : Memo → Word → Term
term_in m w = cond (is_variable w.bytes) (Variable (number_of m.vars w)) (Constant (number_of m.names w))

abbrev pub row_terms : Memo → List Word → List Term
row_terms m [] = []
row_terms m (w ∷ ws) = term_in m w ∷ row_terms (put m w) ws

abbrev pub pattern_of : Memo → List (List Word) → List (List Term)
pattern_of m [] = []
pattern_of m (ws ∷ wss) = row_terms m ws ∷ pattern_of (puts m ws) wss

-- the variables of lines with one each
abbrev pub numbers_of : Memo → List (List Word) → List ℕ
numbers_of m [] = []
numbers_of m (ws ∷ wss) = map (number_of m.vars) ws ++ numbers_of (puts m ws) wss

-- the two terms of a line
abbrev pub pair_of : List Term → Term × Term
pair_of [] = (Constant 0, Constant 0)
pair_of (a ∷ []) = (a, a)
pair_of (a ∷ b ∷ ts) = (a, b)

abbrev pub pairs_in : Memo → List (List Word) → List (Term × Term)
pairs_in m [] = []
pairs_in m (ws ∷ wss) = pair_of (row_terms m ws) ∷ pairs_in (puts m ws) wss

abbrev pub twice : ℕ → Term × Term
twice v = (Variable v, Variable v)

abbrev pub left_of : Kind → Memo → RuleDraft → List ℕ
left_of Functional m r = numbers_of (put_number m (length r.left) counting.Left) r.left
left_of Equality m r = []

abbrev pub pairs_of : Kind → Memo → RuleDraft → List (Term × Term)
pairs_of Functional m r = map twice (numbers_of (put_number (put_list counting.Left m r.left) (length r.pairs) counting.Right) r.pairs)
pairs_of Equality m r = pairs_in (put_number m (length r.pairs) counting.Pairs) r.pairs

abbrev pub rule_of : Memo → RuleDraft → Rule
rule_of m r = record {
  kind = r.kind;
  pattern = pattern_of (put_number (extend m (kind_word r.kind ∷ [])) (length r.rows) counting.Rows) r.rows;
  left = left_of r.kind (after_rows m r) r;
  pairs = pairs_of r.kind (after_rows m r) r;
}

abbrev pub rules_of : Memo → List RuleDraft → List Rule
rules_of m [] = []
rules_of m (r ∷ rs) = rule_of m r ∷ rules_of (put_rule m r) rs

abbrev pub book_of : Draft → BookMeaning
book_of d = record { width = d.width; rules = rules_of (rules_memo d) d.rules }

abbrev pub targets_of : Draft → BookMeaning
targets_of d = record { width = d.width; rules = rules_of (targets_memo d) d.targets }

-- the text spells this book and these targets, with these names of the constants by their numbers
pub record SpellsBook (text : List ℕ) (book targets : BookMeaning) (names : List Word) : Type 0 where
  pub draft : Draft
  pub spells : Spells text draft
  pub book_is : book ≡ book_of draft
  pub targets_is : targets ≡ targets_of draft
  pub names_are : names ≡ (put_down draft).names
