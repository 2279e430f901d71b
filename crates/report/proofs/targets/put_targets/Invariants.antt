use Rattle.std.proofs.Common.{◌≡◌, List, length}
use Rattle.pieces.specs.Put.{Same, Put}
use Rattle.writing.specs.Outcomes.{Outcome}
use Rattle.writing.specs.Reports.{target_texts}
use Rattle.writing.specs.Fitting.{whole}
use Rattle.report.specs.Reported.{EachDue}
use Rattle.report.proofs.targets.put_targets.Given as goal

-- the outcomes so far are due, and their lines are put down
abbrev pub invariant-loop-i : goal.invariant-loop-i
invariant-loop-i g l =
    let b = g.B.Book.meaning l.book in
    let ts = g.T.Book.meaning l.targets in
    Same l.initial.out l.out
    × (ts.width ≡ b.width → (os : List Outcome) × (length os ≡ l.i) × EachDue b ts 0 os × Put l.initial.out (whole (target_texts l.naming.text.now l.naming.names.now 1 os)) l.out)
