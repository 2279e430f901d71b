-- A book and its targets as they are written down, which lines write them, and what each line puts down.
use Rattle.std.specs.Prelude.{◌≡◌, ℕ, ◌+◌, ◌≤◌, true, cond, List, [], ◌∷◌, ◌++◌, length, codes, decimal}
use Rattle.text.specs.Lines.{Line, clean}
use Rattle.text.specs.Spelling.{Lined, Spaced}
use Rattle.text.specs.Words.{Word, bytes_of, is_variable}
use Rattle.rules.specs.Books.{base}
use Rattle.rules.specs.declared.term.Kind.{Kind}
use Rattle.rules.specs.declared.term.Kind.TheVariants.{Functional, Equality}
use Rattle.sheets.specs.Layout.{kind_word}
use Rattle.reader.specs.declared.desk.Counting.{Counting}
use Rattle.reader.specs.declared.desk.Counting.TheVariants as counting
use Rattle.reader.specs.declared.desk.Entry.{Entry}
use Rattle.reader.specs.declared.desk.Entry.TheVariants as entries
use Rattle.reader.specs.declared.desk.Part.{Part}
use Rattle.reader.specs.declared.desk.Part.TheVariants as parts
use Rattle.reader.specs.Format.{Memo, nothing, keyword, least, most, shaped, known, seen_in, number_of, with_width, with_names, with_vars, in_targets}

-- a rule as it is written: its rows, and the lines of its lists; of a functional rule the pairs are the right variables
pub record RuleDraft : Type 0 where
  pub kind : Kind
  pub rows : List (List Word)
  pub left : List (List Word)
  pub pairs : List (List Word)

pub record Draft : Type 0 where
  pub width : ℕ
  pub rules : List RuleDraft
  pub targets : List RuleDraft

-- The lines wss, each a list of words, begin with what is written, and rest follows.

-- a line of a keyword and a number
pub record CountWritten (c : Counting) (n : ℕ) (wss rest : List (List Word)) : Type 0 where
  pub line : List Word
  pub begins : wss ≡ line ∷ rest
  pub says : bytes_of line ≡ keyword c ∷ decimal n ∷ []

-- a count and the lines that it counts
pub record ListWritten (c : Counting) (xs wss rest : List (List Word)) : Type 0 where
  pub line : List Word
  pub begins : wss ≡ line ∷ (xs ++ rest)
  pub says : bytes_of line ≡ keyword c ∷ decimal (length xs) ∷ []

abbrev pub kind_key : Kind → List ℕ
kind_key Functional = codes "functional"
kind_key Equality = codes "equality"

pub record KindWritten (k : Kind) (wss rest : List (List Word)) : Type 0 where
  pub line : List Word
  pub begins : wss ≡ line ∷ rest
  pub says : bytes_of line ≡ kind_key k ∷ []

-- the lists of a rule, after its rows
abbrev pub ListsWritten : Kind → RuleDraft → List (List Word) → List (List Word) → Type 0
ListsWritten Functional r wss rest = (mid : List (List Word)) × ListWritten counting.Left r.left wss mid × ListWritten counting.Right r.pairs mid rest
ListsWritten Equality r wss rest = (r.left ≡ []) × ListWritten counting.Pairs r.pairs wss rest

pub record RuleWritten (r : RuleDraft) (wss rest : List (List Word)) : Type 0 where
  pub rows_from : List (List Word)
  pub lists_from : List (List Word)
  pub kind : KindWritten r.kind wss rows_from
  pub rows : ListWritten counting.Rows r.rows rows_from lists_from
  pub lists : ListsWritten r.kind r lists_from rest

abbrev pub RulesWritten : List RuleDraft → List (List Word) → List (List Word) → Type 0
RulesWritten [] wss rest = wss ≡ rest
RulesWritten (r ∷ rs) wss rest = (mid : List (List Word)) × RuleWritten r wss mid × RulesWritten rs mid rest

-- all lines, in order
pub record DraftWritten (d : Draft) (wss : List (List Word)) : Type 0 where
  pub rules_from : List (List Word)
  pub first_from : List (List Word)
  pub targets_from : List (List Word)
  pub second_from : List (List Word)
  pub width : CountWritten counting.Width d.width wss rules_from
  pub rules : CountWritten counting.Rules (length d.rules) rules_from first_from
  pub first : RulesWritten d.rules first_from targets_from
  pub targets : CountWritten counting.Targets (length d.targets) targets_from second_from
  pub second : RulesWritten d.targets second_from []

-- What is put down. Constants are numbered through the whole text and variables through the rows of their rule, by
-- first appearance: a word that was seen keeps its number, and a new one gets the next.

abbrev pub add : List Word → Word → List Word
add seen w = cond (seen_in seen w) seen (seen ++ w ∷ [])

abbrev pub extend_in : Memo → List ℕ → Part → Memo
extend_in m xs parts.Rules = record { width = m.width; part = m.part; rules = m.rules ++ xs; targets = m.targets; names = m.names; vars = m.vars }
extend_in m xs parts.Targets = record { width = m.width; part = m.part; rules = m.rules; targets = m.targets ++ xs; names = m.names; vars = m.vars }

-- the sheet that is being filled, with more words
abbrev pub extend : Memo → List ℕ → Memo
extend m xs = extend_in m xs m.part

abbrev pub put : Memo → Word → Memo
put m w = cond (is_variable w.bytes)
    (extend (with_vars m (add m.vars w)) ((base + number_of m.vars w) ∷ []))
    (extend (with_names m (add m.names w)) (number_of m.names w ∷ []))

abbrev pub puts : Memo → List Word → Memo
puts m [] = m
puts m (w ∷ ws) = puts (put m w) ws

abbrev pub puts_all : Memo → List (List Word) → Memo
puts_all m [] = m
puts_all m (ws ∷ wss) = puts_all (puts m ws) wss

abbrev pub put_number : Memo → ℕ → Counting → Memo
put_number m n counting.Width = extend (with_width m n) (n ∷ [])
put_number m n counting.Rules = extend m (n ∷ [])
put_number m n counting.Targets = extend (extend (in_targets m) (m.width ∷ [])) (n ∷ [])
put_number m n counting.Rows = extend (with_vars m []) (n ∷ [])
put_number m n counting.Left = extend m (n ∷ [])
put_number m n counting.Right = extend m (n ∷ [])
put_number m n counting.Pairs = extend (extend m (0 ∷ [])) (n ∷ [])

abbrev pub put_list : Counting → Memo → List (List Word) → Memo
put_list c m xs = puts_all (put_number m (length xs) c) xs

abbrev pub put_lists : Kind → Memo → RuleDraft → Memo
put_lists Functional m r = put_list counting.Right (put_list counting.Left m r.left) r.pairs
put_lists Equality m r = put_list counting.Pairs m r.pairs

abbrev pub after_rows : Memo → RuleDraft → Memo
after_rows m r = put_list counting.Rows (extend m (kind_word r.kind ∷ [])) r.rows

abbrev pub put_rule : Memo → RuleDraft → Memo
put_rule m r = put_lists r.kind (after_rows m r) r

abbrev pub put_rules : Memo → List RuleDraft → Memo
put_rules m [] = m
put_rules m (r ∷ rs) = put_rules (put_rule m r) rs

abbrev pub after_width : Draft → Memo
after_width d = put_number nothing d.width counting.Width

abbrev pub rules_memo : Draft → Memo
rules_memo d = put_number (after_width d) (length d.rules) counting.Rules

abbrev pub targets_memo : Draft → Memo
targets_memo d = put_number (put_rules (rules_memo d) d.rules) (length d.targets) counting.Targets

abbrev pub put_down : Draft → Memo
put_down d = put_rules (targets_memo d) d.targets

-- What may be written: counts in range, lines with as many words as are due and each of a word's form, and in lists and
-- pairs only variables of the rule's rows.

abbrev pub LinesOk : Entry → Memo → List (List Word) → Type 0
LinesOk e m [] = Unit {0}
LinesOk e m (ws ∷ wss) = (shaped m.width ws e ≡ true) × (known m.vars ws e ≡ true) × LinesOk e (puts m ws) wss

pub record ListOk (c : Counting) (e : Entry) (m : Memo) (xs : List (List Word)) : Type 0 where
  pub low : least c ≤ length xs
  pub high : length xs ≤ most c
  pub lines : LinesOk e (put_number m (length xs) c) xs

abbrev pub ListsOk : Kind → Memo → RuleDraft → Type 0
ListsOk Functional m r = ListOk counting.Left entries.Variable m r.left × ListOk counting.Right entries.Variable (put_list counting.Left m r.left) r.pairs
ListsOk Equality m r = ListOk counting.Pairs entries.Pair m r.pairs

pub record RuleOk (m : Memo) (r : RuleDraft) : Type 0 where
  pub rows : ListOk counting.Rows entries.Row (extend m (kind_word r.kind ∷ [])) r.rows
  pub lists : ListsOk r.kind (after_rows m r) r

abbrev pub RulesOk : Memo → List RuleDraft → Type 0
RulesOk m [] = Unit {0}
RulesOk m (r ∷ rs) = RuleOk m r × RulesOk (put_rule m r) rs

pub record DraftOk (d : Draft) : Type 0 where
  pub some_width : 1 ≤ d.width
  pub small_width : d.width ≤ 8
  pub few_rules : length d.rules ≤ 256
  pub rules : RulesOk (rules_memo d) d.rules
  pub few_targets : length d.targets ≤ 256
  pub targets : RulesOk (targets_memo d) d.targets

-- each line is clean, and its words, with any spaces between and around, are these
abbrev pub LineWords : List Line → List (List Word) → Type 0
LineWords [] [] = Unit {0}
LineWords [] (ws ∷ wss) = ⊥
LineWords (l ∷ ls) [] = ⊥
LineWords (l ∷ ls) (ws ∷ wss) = (clean l.bytes ≡ true) × Spaced l.place ws l.bytes × LineWords ls wss

-- these lines spell the draft
pub record LinesSpell (ls : List Line) (d : Draft) : Type 0 where
  pub words : List (List Word)
  pub worded : LineWords ls words
  pub written : DraftWritten d words
  pub ok : DraftOk d

-- the text spells the draft
pub record Spells (text : List ℕ) (d : Draft) : Type 0 where
  pub lines : List Line
  pub lined : Lined 0 lines text
  pub spelled : LinesSpell lines d
