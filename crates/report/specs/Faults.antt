-- The refusal that the fault of a report is.
use Rattle.std.specs.Prelude.{ℕ}
use Rattle.rules.specs.declared.refusal.Refusal.{Refusal}
use Rattle.rules.specs.Faults.{book_refusal}
use Rattle.joins.specs.Joins.{join_refusal}
use Rattle.reader.specs.Faults.{read_refusal}
use Rattle.trial.specs.Faults.{trial_refusal}
use Rattle.writing.specs.Faults.{short_refusal}
use Rattle.report.specs.declared.fault.ReportFault.{ReportFault}
use Rattle.report.specs.declared.fault.ReportFault.TheVariants.{Reading, Book, Joining, Trial, Short}

-- each lower refusal whole, with its number, its layer and its place
abbrev pub report_refusal : ReportFault → Refusal
report_refusal (Reading e) = read_refusal e
report_refusal (Book e) = book_refusal e
report_refusal (Joining e) = join_refusal e
report_refusal (Trial e) = trial_refusal e
report_refusal (Short e) = short_refusal e

-- the output is too short for part k
abbrev pub short_fault : ℕ → ReportFault
short_fault k = Short (record { place = k })
