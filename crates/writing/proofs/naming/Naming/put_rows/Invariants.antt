use Rattle.std.proofs.Common.{◌≤◌, map, drop, Result}
use Rattle.pieces.specs.declared.output.Output.{Output}
use Rattle.pieces.specs.declared.output.Short.{Short}
use Rattle.pieces.specs.Put.{Puts, size}
use Rattle.writing.specs.Outcomes.{rows_of}
use Rattle.writing.specs.Reports.{lines_text, row_line}
use Rattle.writing.proofs.naming.Naming.put_rows.Given as goal

-- whatever comes of the rows that are left comes of all rows
abbrev pub invariant-loop-row : goal.invariant-loop-row
invariant-loop-row g l =
    let rows = rows_of (g.F.Told.outcome l.told) in
    (l.out.used ≤ size l.out)
    × ((r : Result (Unit {0}) Short) (b : Output) → Puts l.out (lines_text l.self.text.now (map (row_line l.self.names.now) (drop l.row rows))) r b → Puts l.initial.out (lines_text l.self.text.now (map (row_line l.self.names.now) rows)) r b)
