-- The report on the targets of a book.
use Rattle.std.specs.Prelude.{◌≡◌, ℕ, ◌+◌, List, [], ◌∷◌, map, length, replicate, Ok, Err, Result}
use Rattle.rules.specs.Books.{BookMeaning}
use Rattle.sheets.specs.Laws.{Passing}
use Rattle.sheets.specs.Reads.{sheet_meaning}
use Rattle.text.specs.declared.words.Name.{Name}
use Rattle.reader.specs.declared.fault.ReadFault.{ReadFault}
use Rattle.reader.specs.Format.{Memo}
use Rattle.reader.specs.Reads.{Lengths, no_name, padded, Blank}
use Rattle.text.specs.Words.{name_of, Word}
use Rattle.spelling.specs.Draft.{Draft, Spells, put_down}
use Rattle.spelling.specs.Book.{SpellsBook}
use Rattle.pieces.specs.declared.output.Output.{Output}
use Rattle.writing.specs.Outcomes.{Outcome}
use Rattle.writing.specs.Reports.{parts}
use Rattle.writing.specs.Fitting.{Writes}
use Rattle.writing.specs.Filling.{Fills}
use Rattle.outcomes.specs.Due.{DueAt}
use Rattle.report.specs.declared.fault.ReportFault.{ReportFault}
use Rattle.report.specs.declared.fault.ReportFault.TheVariants.{Reading}
use Rattle.report.specs.Faults.{short_fault}

-- each outcome is due to its target, of which the first has the number i
abbrev pub EachDue : BookMeaning → BookMeaning → ℕ → List Outcome → Type 0
EachDue b targets i [] = Unit {0}
EachDue b targets i (o ∷ os) = DueAt b targets i o × EachDue b targets (i + 1) os

-- each target has an outcome that is due to it, and these outcomes are written
pub record Reported (b targets : BookMeaning) (text : List ℕ) (names : List Name) (room : ℕ) (r : Result ℕ ReportFault) (out : List ℕ) : Type 0 where
  pub outcomes : List Outcome
  pub long : length outcomes ≡ length targets.rules
  pub each : EachDue b targets 0 outcomes
  pub writes : Writes short_fault room (parts text names outcomes) r out

-- the same of an output that is not closed yet
pub record ReportFills (b targets : BookMeaning) (text : List ℕ) (names : List Name) (from : Output) (r : Result (Unit {0}) ReportFault) (to : Output) : Type 0 where
  pub outcomes : List Outcome
  pub long : length outcomes ≡ length targets.rules
  pub each : EachDue b targets 0 outcomes
  pub fills : Fills short_fault from (parts text names outcomes) r to

-- two sheets that pass the check, with books of one width
pub record Sound (rules targets : List ℕ) : Type 0 where
  pub rules_pass : Passing rules
  pub targets_pass : Passing targets
  pub one_width : (sheet_meaning targets).width ≡ (sheet_meaning rules).width

-- what the lent places hold of what was read
abbrev pub rules_in : Lengths → Memo → List ℕ
rules_in l m = padded l.rules 0 m.rules

abbrev pub targets_in : Lengths → Memo → List ℕ
targets_in l m = padded l.targets 0 m.targets

abbrev pub names_in : Lengths → Memo → List Name
names_in l m = padded l.names no_name (map name_of m.names)

pub record HoldsRead (l : Lengths) (m : Memo) (rs ts : List ℕ) (ns : List Name) : Type 0 where
  pub rules : rs ≡ rules_in l m
  pub targets : ts ≡ targets_in l m
  pub names : ns ≡ names_in l m

-- by what the reader answers: its fault arrives whole, or the report on what was read is written
abbrev pub ReadsAndFills : Result Memo ReadFault → List ℕ → Lengths → Output → Result (Unit {0}) ReportFault → Output → List ℕ → List ℕ → List Name → Type 0
ReadsAndFills (Err e) text l from r to rs ts ns = (r ≡ Err (Reading e)) × Blank l rs ts ns
ReadsAndFills (Ok m) text l from r to rs ts ns = HoldsRead l m rs ts ns × (Sound rs ts → ReportFills (sheet_meaning rs) (sheet_meaning ts) text ns from r to)

-- places are kept, or zero after a refusal
abbrev pub kept : {X : Type 0} → Result (Unit {0}) ReportFault → List X → X → List X
kept (Ok u) xs zero = xs
kept (Err e) xs zero = replicate (length xs) zero

-- what the places hold in the end: what was read, or after a refusal zeros, the output's too
abbrev pub PlacesAfter : Result ℕ ReportFault → Lengths → Memo → ℕ → List ℕ → List ℕ → List Name → List ℕ → Type 0
PlacesAfter (Ok n) l m room rs ts ns out = HoldsRead l m rs ts ns
PlacesAfter (Err e) l m room rs ts ns out = Blank l rs ts ns × (out ≡ replicate room 0)

-- what the report answers and what each place then holds, by what the reader answers
abbrev pub ReportOf : Result Memo ReadFault → List ℕ → Lengths → ℕ → Result ℕ ReportFault → List ℕ → List ℕ → List Name → List ℕ → Type 0
ReportOf (Err e) text l room r rs ts ns out = (r ≡ Err (Reading e)) × Blank l rs ts ns × (out ≡ replicate room 0)
ReportOf (Ok m) text l room r rs ts ns out =
    PlacesAfter r l m room rs ts ns out
    × (Sound (rules_in l m) (targets_in l m) → Reported (sheet_meaning (rules_in l m)) (sheet_meaning (targets_in l m)) text (names_in l m) room r out)

-- a text that is read spells a book and targets, as they are written down, and it is these that are read
abbrev pub ReadAsSpelled : List ℕ → Result Memo ReadFault → Type 0
ReadAsSpelled text o = (m : Memo) → o ≡ Ok m → (d : Draft) × Spells text d × (m ≡ put_down d)

-- The text spells a book and targets, with these names of its constants; each target has an outcome that is due to it, and
-- these outcomes are written.
pub record AsSpelled (text : List ℕ) (names : List Name) (room : ℕ) (r : Result ℕ ReportFault) (out : List ℕ) : Type 0 where
  pub book : BookMeaning
  pub targets : BookMeaning
  pub known : List Word
  pub spelled : SpellsBook text book targets known
  pub reported : Reported book targets text names room r out

-- by what the reader answers: its refusal and no other, or the report on what the text spells
abbrev pub ToldOf : Result Memo ReadFault → List ℕ → Lengths → ℕ → Result ℕ ReportFault → List ℕ → Type 0
ToldOf (Err e) text l room r out = r ≡ Err (Reading e)
ToldOf (Ok m) text l room r out = AsSpelled text (names_in l m) room r out
