-- The format: what the next line must be, what it puts down, and what it is refused for.
use Rattle.std.specs.Prelude.{ℕ, suc, ◌+◌, Bool, true, cond, not, ◌&&◌, ◌||◌, List, [], ◌∷◌, ◌++◌, length, replicate, Some, None, Ok, Err, codes, Option, Result, ◌==◌, nat_le, nat_lt}
use Rattle.std.specs.List.{list_all}
use Rattle.text.specs.Lines.{Line, clean, lines_at}
use Rattle.text.specs.Words.{Word, words_at, bytes_of, same_word, number_in, is_variable, is_term}
use Rattle.text.specs.Counts.{count_of}
use Rattle.rules.specs.Books.{base}
use Rattle.rules.specs.declared.term.Kind.{Kind}
use Rattle.rules.specs.declared.term.Kind.TheVariants.{Functional, Equality}
use Rattle.sheets.specs.Layout.{kind_word}
use Rattle.reader.specs.declared.fault.Cause.{Cause}
use Rattle.reader.specs.declared.fault.Cause.TheVariants.{Byte, Form, Count, Unknown, Room, Lines}
use Rattle.reader.specs.declared.fault.ReadFault.{ReadFault}
use Rattle.reader.specs.declared.desk.Counting.{Counting}
use Rattle.reader.specs.declared.desk.Counting.TheVariants as counting
use Rattle.reader.specs.declared.desk.Entry.{Entry}
use Rattle.reader.specs.declared.desk.Entry.TheVariants as entries
use Rattle.reader.specs.declared.desk.Part.{Part}
use Rattle.reader.specs.declared.desk.Part.TheVariants as parts

-- how many elements a list may hold
pub data Limit : Type 0 where
  places : ℕ → Limit
  endless : Limit

abbrev pub free : Limit → ℕ → Bool
free (places k) n = nat_lt n k
free endless n = true

pub record Rooms : Type 0 where
  pub rules : Limit
  pub targets : Limit
  pub names : Limit
  pub vars : Limit

-- What the lines so far have put down: the width, the words of the two sheets, the names of the constants, and the
-- names of the variables of the rule under way.
pub record Memo : Type 0 where
  pub width : ℕ
  pub part : Part
  pub rules : List ℕ
  pub targets : List ℕ
  pub names : List Word
  pub vars : List Word

abbrev pub Out : Type 0 → Type 0
Out A = Result A Cause

-- then, unless it is refused
abbrev pub then : {A B : Type 0} → Out A → (A → Out B) → Out B
then (Ok x) f = f x
then (Err e) f = Err e

abbrev pub pushed : {X : Type 0} → Limit → List X → X → Out (List X)
pushed room xs x = cond (free room (length xs)) (Ok (xs ++ x ∷ [])) (Err Room)

-- a word's number by first appearance
abbrev pub number_of : List Word → Word → ℕ
number_of seen w = number_in (bytes_of seen) w.bytes

-- the word is one of those seen
abbrev pub seen_in : List Word → Word → Bool
seen_in seen w = nat_lt (number_of seen w) (length seen)

-- the words seen, after w
abbrev pub seen_with : Limit → List Word → Word → Out (List Word)
seen_with room seen w = cond (seen_in seen w) (Ok seen) (pushed room seen w)

abbrev pub with_width : Memo → ℕ → Memo
with_width m n = record { width = n; part = m.part; rules = m.rules; targets = m.targets; names = m.names; vars = m.vars }

abbrev pub with_names : Memo → List Word → Memo
with_names m ns = record { width = m.width; part = m.part; rules = m.rules; targets = m.targets; names = ns; vars = m.vars }

abbrev pub with_vars : Memo → List Word → Memo
with_vars m vs = record { width = m.width; part = m.part; rules = m.rules; targets = m.targets; names = m.names; vars = vs }

-- from here on words go to the sheet of targets
abbrev pub in_targets : Memo → Memo
in_targets m = record { width = m.width; part = parts.Targets; rules = m.rules; targets = m.targets; names = m.names; vars = m.vars }

-- puts a word into a sheet
abbrev pub put_in : Rooms → Memo → ℕ → Part → Out Memo
put_in rooms m x parts.Rules = then (pushed rooms.rules m.rules x) (λ s. Ok (record { width = m.width; part = m.part; rules = s; targets = m.targets; names = m.names; vars = m.vars }))
put_in rooms m x parts.Targets = then (pushed rooms.targets m.targets x) (λ s. Ok (record { width = m.width; part = m.part; rules = m.rules; targets = s; names = m.names; vars = m.vars }))

abbrev pub put_word : Rooms → Memo → ℕ → Out Memo
put_word rooms m x = put_in rooms m x m.part

-- puts down a word of a row, a list or a pair
abbrev pub put_term : Rooms → Memo → Word → Out Memo
put_term rooms m w = cond (is_variable w.bytes)
    (then (seen_with rooms.vars m.vars w) (λ vs. put_word rooms (with_vars m vs) (base + number_of m.vars w)))
    (then (seen_with rooms.names m.names w) (λ ns. put_word rooms (with_names m ns) (number_of m.names w)))

abbrev pub put_terms : Rooms → Memo → List Word → Out Memo
put_terms rooms m [] = Ok m
put_terms rooms m (w ∷ ws) = then (put_term rooms m w) (λ n. put_terms rooms n ws)

-- the keyword of a count, and its range
abbrev pub keyword : Counting → List ℕ
keyword counting.Width = codes "width"
keyword counting.Rules = codes "rules"
keyword counting.Targets = codes "targets"
keyword counting.Rows = codes "rows"
keyword counting.Left = codes "left"
keyword counting.Right = codes "right"
keyword counting.Pairs = codes "pairs"

abbrev pub least : Counting → ℕ
least counting.Width = 1
least counting.Rules = 0
least counting.Targets = 0
least counting.Rows = 1
least counting.Left = 0
least counting.Right = 0
least counting.Pairs = 0

abbrev pub most : Counting → ℕ
most counting.Width = 8
most counting.Rules = 256
most counting.Targets = 256
most counting.Rows = 4
most counting.Left = 32
most counting.Right = 32
most counting.Pairs = 32

abbrev pub counted : Option ℕ → Out ℕ
counted None = Err Count
counted (Some n) = Ok n

-- a line of a keyword and a count
abbrev pub count_line : Counting → List Word → Out ℕ
count_line c [] = Err Form
count_line c (k ∷ []) = Err Form
count_line c (k ∷ n ∷ []) = cond (same_word k.bytes (keyword c) && is_term n.bytes) (counted (count_of (least c) (most c) n.bytes)) (Err Form)
count_line c (k ∷ n ∷ w ∷ ws) = Err Form

-- what it puts down
abbrev pub put_count : Rooms → Memo → ℕ → Counting → Out Memo
put_count rooms m n counting.Width = put_word rooms (with_width m n) n
put_count rooms m n counting.Rules = put_word rooms m n
put_count rooms m n counting.Targets = then (put_word rooms (in_targets m) m.width) (λ k. put_word rooms k n)
put_count rooms m n counting.Rows = put_word rooms (with_vars m []) n
put_count rooms m n counting.Left = put_word rooms m n
put_count rooms m n counting.Right = put_word rooms m n
put_count rooms m n counting.Pairs = then (put_word rooms m 0) (λ k. put_word rooms k n)

-- a line of one word, the kind of a rule
abbrev pub kind_line : List Word → Out Kind
kind_line [] = Err Form
kind_line (k ∷ []) = cond (same_word k.bytes (codes "functional")) (Ok Functional) (cond (same_word k.bytes (codes "equality")) (Ok Equality) (Err Form))
kind_line (k ∷ w ∷ ws) = Err Form

abbrev pub all_terms : List Word → Bool
all_terms ws = list_all (λ w. is_term w.bytes) ws

abbrev pub all_variables : List Word → Bool
all_variables ws = list_all (λ w. is_variable w.bytes) ws

-- as many words as are wanted, each with a word's form
abbrev pub fits : ℕ → List Word → Bool
fits many ws = length ws == many && all_terms ws

abbrev pub shaped : ℕ → List Word → Entry → Bool
shaped width ws entries.Row = fits width ws
shaped width ws entries.Variable = fits 1 ws && all_variables ws
shaped width ws entries.Pair = fits 2 ws

-- each variable is one of the rows
abbrev pub all_known : List Word → List Word → Bool
all_known vars ws = list_all (λ w. not (is_variable w.bytes) || seen_in vars w) ws

abbrev pub known : List Word → List Word → Entry → Bool
known vars ws entries.Row = true
known vars ws entries.Variable = all_known vars ws
known vars ws entries.Pair = all_known vars ws

-- a line of a row, a variable or a pair
abbrev pub entry_line : Rooms → Memo → List Word → Entry → Out Memo
entry_line rooms m ws e = cond (shaped m.width ws e) (cond (known m.vars ws e) (put_terms rooms m ws) (Err Unknown)) (Err Form)

-- what a line is due to be
pub data Due : Type 0 where
  count : Counting → Due
  kind : Due
  entry : Entry → Due

-- what is due after it, before all else
abbrev pub after_count : Counting → ℕ → List Due
after_count counting.Width n = []
after_count counting.Rules n = replicate n kind
after_count counting.Targets n = replicate n kind
after_count counting.Rows n = replicate n (entry entries.Row)
after_count counting.Left n = replicate n (entry entries.Variable)
after_count counting.Right n = replicate n (entry entries.Variable)
after_count counting.Pairs n = replicate n (entry entries.Pair)

abbrev pub after_kind : Kind → List Due
after_kind Functional = count counting.Rows ∷ count counting.Left ∷ count counting.Right ∷ []
after_kind Equality = count counting.Rows ∷ count counting.Pairs ∷ []

-- what a line leads to: what is due next, and what is put down
pub record Step : Type 0 where
  pub next : List Due
  pub memo : Memo

abbrev pub words_line : Rooms → Memo → List Word → Due → Out Step
words_line rooms m ws (count c) = then (count_line c ws) (λ n. then (put_count rooms m n c) (λ k. Ok (record { next = after_count c n; memo = k })))
words_line rooms m ws kind = then (kind_line ws) (λ k. then (put_word rooms m (kind_word k)) (λ n. Ok (record { next = after_kind k; memo = n })))
words_line rooms m ws (entry e) = then (entry_line rooms m ws e) (λ k. Ok (record { next = []; memo = k }))

abbrev pub read_line : Rooms → Memo → Line → Due → Out Step
read_line rooms m l d = cond (clean l.bytes) (words_line rooms m (words_at l.place l.bytes) d) (Err Byte)

-- on to the next line, or refused at line n
abbrev pub follow : ℕ → Out Step → (Step → Result Memo ReadFault) → Result Memo ReadFault
follow n (Ok s) f = f s
follow n (Err e) f = Err (record { cause = e; line = n })

-- all lines, of which the first has the number n; a line is missing, or one is too many
abbrev pub read_lines : Rooms → ℕ → List Due → Memo → List Line → Result Memo ReadFault
read_lines rooms n [] m [] = Ok m
read_lines rooms n (d ∷ ds) m [] = Err (record { cause = Lines; line = n })
read_lines rooms n [] m (l ∷ ls) = Err (record { cause = Lines; line = n })
read_lines rooms n (d ∷ ds) m (l ∷ ls) = follow n (read_line rooms m l d) (λ s. read_lines rooms (suc n) (s.next ++ ds) s.memo ls)

-- the text is a width, rules and targets
abbrev pub whole_text : List Due
whole_text = count counting.Width ∷ count counting.Rules ∷ count counting.Targets ∷ []

abbrev pub nothing : Memo
nothing = record { width = 0; part = parts.Rules; rules = []; targets = []; names = []; vars = [] }

abbrev pub read_text : Rooms → List ℕ → Result Memo ReadFault
read_text rooms text = cond (nat_le (length text) 65536) (read_lines rooms 1 whole_text nothing (lines_at 0 text)) (Err (record { cause = Room; line = 0 }))
