-- The law of reports.
use Rattle.std.specs.Prelude.{◌≡◌, ℕ, List, Result}
use Rattle.text.specs.declared.words.Name.{Name}
use Rattle.sheets.specs.Reads.{sheet_meaning}
use Rattle.report.specs.declared.fault.ReportFault.{ReportFault}
use Rattle.report.specs.Reported.{Sound, Reported}

-- Of two sheets there is exactly one answer, and one output.
abbrev pub OneReport : Type 0
OneReport =
    (rules targets : List ℕ) → Sound rules targets → (text : List ℕ) (names : List Name) (room : ℕ)
    (r r' : Result ℕ ReportFault) (out out' : List ℕ) →
    Reported (sheet_meaning rules) (sheet_meaning targets) text names room r out →
    Reported (sheet_meaning rules) (sheet_meaning targets) text names room r' out' → (r ≡ r') × (out ≡ out')
