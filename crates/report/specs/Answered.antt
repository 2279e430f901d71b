-- The whole answer to a text: what was read, the outcomes with a name for every constant, and what each place then holds.
use Rattle.std.specs.Prelude.{◌≡◌, ℕ, List, length, replicate, Ok, Err, Result}
use Rattle.std.specs.List.{AllByRecursion}
use Rattle.rules.specs.Books.{BookMeaning}
use Rattle.sheets.specs.Layout.{layout}
use Rattle.text.specs.declared.words.Name.{Name}
use Rattle.text.specs.Words.{Word}
use Rattle.reader.specs.declared.fault.ReadFault.{ReadFault}
use Rattle.reader.specs.Faults.{read_refusal}
use Rattle.reader.specs.Format.{Memo, read_text}
use Rattle.reader.specs.Reads.{Lengths, rooms_in, Blank}
use Rattle.spelling.specs.Book.{SpellsBook}
use Rattle.writing.specs.Outcomes.{Outcome, rows_of}
use Rattle.writing.specs.Reports.{parts, refusal_text}
use Rattle.writing.specs.Fitting.{whole, Writes}
use Rattle.outcomes.specs.Laws.{Named}
use Rattle.report.specs.declared.fault.ReportFault.{ReportFault}
use Rattle.report.specs.declared.fault.ReportFault.TheVariants.{Reading}
use Rattle.report.specs.Faults.{short_fault}
use Rattle.report.specs.Reported.{EachDue, HoldsRead, names_in}

-- every entry of the rows is one of the first n constants, or a symbol
abbrev pub RowsNamed : ℕ → Outcome → Type 0
RowsNamed n o = AllByRecursion (AllByRecursion (Named n)) (rows_of o)

-- one outcome for each target, the one that is due to it
pub record OutcomesOf (b targets : BookMeaning) (os : List Outcome) : Type 0 where
  pub long : length os ≡ length targets.rules
  pub each : EachDue b targets 0 os

-- what the lent places hold in the end: what was read, or after a refusal zeros
abbrev pub LentAfter : Result ℕ ReportFault → Lengths → Memo → List ℕ → List ℕ → List Name → Type 0
LentAfter (Ok n) l m rs ts ns = HoldsRead l m rs ts ns
LentAfter (Err e) l m rs ts ns = Blank l rs ts ns

-- What was read, m, is a book, targets and names that the text spells; each target has the outcome that is due to it, and every
-- constant in its rows has a name.
pub record Answered (text : List ℕ) (m : Memo) (outcomes : List Outcome) : Type 0 where
  pub book : BookMeaning
  pub targets : BookMeaning
  pub known : List Word
  pub spelled : SpellsBook text book targets known
  pub rules_read : m.rules ≡ layout book
  pub targets_read : m.targets ≡ layout targets
  pub names_read : m.names ≡ known
  pub due : OutcomesOf book targets outcomes
  pub named : AllByRecursion (RowsNamed (length known)) outcomes

-- The report: these outcomes, written into an output of so many places, or the refusal that it is too short.
pub record WholeReport (text : List ℕ) (l : Lengths) (m : Memo) (room : ℕ) (r : Result ℕ ReportFault) (rs ts : List ℕ) (ns : List Name) (out : List ℕ) : Type 0 where
  pub outcomes : List Outcome
  pub answered : Answered text m outcomes
  pub writes : Writes short_fault room (parts text (names_in l m) outcomes) r out
  pub places : LentAfter r l m rs ts ns

-- By what the reader answers: its refusal and no other, all places zero, or the report on what the text spells.
abbrev pub AnswerOf : Result Memo ReadFault → List ℕ → Lengths → ℕ → Result ℕ ReportFault → List ℕ → List ℕ → List Name → List ℕ → Type 0
AnswerOf (Err e) text l room r rs ts ns out = (r ≡ Err (Reading e)) × Blank l rs ts ns × (out ≡ replicate room 0)
AnswerOf (Ok m) text l room r rs ts ns out = WholeReport text l m room r rs ts ns out

-- What is printed: the line of the reader's refusal, or the report, whole.
pub record PrintedReport (text : List ℕ) (l : Lengths) (m : Memo) (bytes : List ℕ) : Type 0 where
  pub outcomes : List Outcome
  pub answered : Answered text m outcomes
  pub is : bytes ≡ whole (parts text (names_in l m) outcomes)

abbrev pub Printed : Result Memo ReadFault → List ℕ → Lengths → List ℕ → Type 0
Printed (Err e) text l bytes = bytes ≡ refusal_text (read_refusal e)
Printed (Ok m) text l bytes = PrintedReport text l m bytes

-- Of a text, lent places and an output there is one answer, and the places then hold one thing: it does not depend on
-- which open spots were taken.
abbrev pub OneAnswer : Type 0
OneAnswer =
    (l : Lengths) (text : List ℕ) (room : ℕ) (r r' : Result ℕ ReportFault) (rs rs' ts ts' : List ℕ) (ns ns' : List Name) (out out' : List ℕ) →
    AnswerOf (read_text (rooms_in l) text) text l room r rs ts ns out → AnswerOf (read_text (rooms_in l) text) text l room r' rs' ts' ns' out' →
    (r ≡ r') × (rs ≡ rs') × (ts ≡ ts') × (ns ≡ ns') × (out ≡ out')

-- and one thing is printed
abbrev pub OnePrinted : Type 0
OnePrinted = (l : Lengths) (text bytes bytes' : List ℕ) → Printed (read_text (rooms_in l) text) text l bytes → Printed (read_text (rooms_in l) text) text l bytes' → bytes ≡ bytes'
