-- What a text is read as, in words.
use Rattle.std.specs.Prelude.{◌≡◌, ℕ, zero, suc, ◌+◌, cond, ◌&&◌, List, [], ◌∷◌, ◌++◌, map, length, Some, None, Ok, Err, codes, decimal, Option, Result, ◌==◌, nat_le}
use Rattle.std.specs.Option.{option_map}
use Rattle.std.specs.List.{slice_get}
use Rattle.text.specs.Lines.{Line, lines_at}
use Rattle.text.specs.Words.{Word}
use Rattle.rules.specs.Rules.{Rule}
use Rattle.rules.specs.Books.{BookMeaning}
use Rattle.rules.specs.declared.term.Kind.{Kind}
use Rattle.rules.specs.declared.term.Kind.TheVariants.{Functional, Equality}
use Rattle.reader.specs.declared.fault.ReadFault.{ReadFault}
use Rattle.reader.specs.Faults.{read_refusal}
use Rattle.reader.specs.Format.{Memo, read_text}
use Rattle.reader.specs.Reads.{Lengths, rooms_in}
use Rattle.writing.specs.Reports.{refusal_text}
use Rattle.spelling.specs.Book.{SpellsBook}

-- how many lines write the lists of a rule, each after a line with its count
abbrev pub list_lines : Kind → ℕ → ℕ → ℕ
list_lines Functional left pairs = (1 + left) + (1 + pairs)
list_lines Equality left pairs = 1 + pairs

-- how many lines write a rule: its kind, its rows after a line with their count, and its lists
abbrev pub rule_lines : Rule → ℕ
rule_lines r = (2 + length r.pattern) + list_lines r.kind (length r.left) (length r.pairs)

-- the lines on which rules begin, one after another, the first on the line n
abbrev pub begins : ℕ → List Rule → List ℕ
begins n [] = []
begins n (r ∷ rules) = n ∷ begins (n + rule_lines r) rules

-- the line after them
abbrev pub after : ℕ → List Rule → ℕ
after n [] = n
after n (r ∷ rules) = after (n + rule_lines r) rules

-- the rules stand after the lines `width` and `rules`, the targets after the rules and the line `targets`
abbrev pub rule_begins : BookMeaning → List ℕ
rule_begins book = begins 3 book.rules

abbrev pub target_begins : BookMeaning → BookMeaning → List ℕ
target_begins book targets = begins (after 3 book.rules + 1) targets.rules

-- the end of a word for so many things
abbrev pub ending : ℕ → List ℕ
ending n = cond (n == 1) [] (codes "s")

-- so many things, in the singular where it is one
abbrev pub count_text : ℕ → List ℕ → List ℕ
count_text n thing = decimal n ++ (codes " " ++ (thing ++ ending n))

unfoldable pub head_text : ℕ → ℕ → ℕ → ℕ → List ℕ
head_text width rules targets names =
    codes "width " ++ (decimal width ++ (codes ", " ++ (count_text rules (codes "rule") ++ (codes ", " ++ (count_text targets (codes "target") ++ (codes ", " ++ (count_text names (codes "constant") ++ codes "\n")))))))

-- the names of the constants by their numbers, from number i on
unfoldable pub name_text : ℕ → Word → List ℕ
name_text i w = (codes "constant " ++ (decimal i ++ codes " ")) ++ (w.bytes ++ codes "\n")

abbrev pub names_text : ℕ → List Word → List ℕ
names_text i [] = []
names_text i (w ∷ ws) = name_text i w ++ names_text (i + 1) ws

-- rules or targets, from number i on, with the lines on which they begin
unfoldable pub begin_text : List ℕ → ℕ → ℕ → List ℕ
begin_text what i line = what ++ (codes " " ++ (decimal i ++ (codes " line " ++ (decimal line ++ codes "\n"))))

abbrev pub begins_text : List ℕ → ℕ → List ℕ → List ℕ
begins_text what i [] = []
begins_text what i (line ∷ lines) = begin_text what i line ++ begins_text what (i + 1) lines

unfoldable pub summary_text : BookMeaning → BookMeaning → List Word → List ℕ
summary_text book targets names =
    head_text book.width (length book.rules) (length targets.rules) (length names)
    ++ (names_text 0 names
    ++ (begins_text (codes "rule") 1 (rule_begins book)
    ++ begins_text (codes "target") 1 (target_begins book targets)))

-- a byte as it is shown: one that no line may have as `?`
abbrev pub shown : ℕ → ℕ
shown b = cond (nat_le 32 b && nat_le b 126) b 63

-- the bytes of line n, from 1
abbrev pub line_numbered : List Line → ℕ → Option (List ℕ)
line_numbered ls zero = None
line_numbered ls (suc n) = option_map (λ l. l.bytes) (slice_get ls n)

-- a line quoted, where there is one
abbrev pub quote_text : Option (List ℕ) → List ℕ
quote_text None = []
quote_text (Some bytes) = map shown bytes ++ codes "\n"

-- the line of the refusal, and the line of the text that it names
unfoldable pub refused_text : List ℕ → ReadFault → List ℕ
refused_text text e = refusal_text (read_refusal e) ++ quote_text (line_numbered (lines_at 0 text) e.line)

-- the text spells a book, targets and names, and the bytes say which
pub record Summed (text bytes : List ℕ) : Type 0 where
  pub book : BookMeaning
  pub targets : BookMeaning
  pub names : List Word
  pub spelled : SpellsBook text book targets names
  pub says : bytes ≡ summary_text book targets names

-- the text is read as what it spells, or refused, and the bytes say so
abbrev pub Said : List ℕ → Result Memo ReadFault → List ℕ → Type 0
Said text (Ok m) bytes = Summed text bytes
Said text (Err e) bytes = bytes ≡ refused_text text e

-- as many places as a reader uses
abbrev pub most_lent : Lengths
most_lent = record { rules = 4096; targets = 4096; names = 4096 }

-- what is said of a text that is read with all places
unfoldable pub Summarized : List ℕ → List ℕ → Type 0
Summarized text bytes = Said text (read_text (rooms_in most_lent) text) bytes
