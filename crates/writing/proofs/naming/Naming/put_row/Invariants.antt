use Rattle.std.proofs.Common.{map, Result}
use Rattle.pieces.specs.declared.output.Output.{Output}
use Rattle.pieces.specs.declared.output.Short.{Short}
use Rattle.pieces.specs.Put.{Puts}
use Rattle.pieces.specs.Lines.{after}
use Rattle.writing.specs.Reports.{entry_piece}
use Rattle.writing.proofs.naming.Naming.put_row.Given as goal

-- whatever comes of the entries that are left comes of all after the first
abbrev pub invariant-loop-e : goal.invariant-loop-e
invariant-loop-e g l =
    (goal.iterator-loop-e g).can_next l.e-iterator
    × (goal.iterator-loop-e g).is_finite l.e-iterator
    × ((r : Result (Unit {0}) Short) (b : Output) → Puts l.out (after l.self.text.now (map (entry_piece l.self.names.now) l.e-iterator)) r b → Puts l.initial.out (after l.self.text.now (map (entry_piece l.self.names.now) l.initial.e-iterator)) r b)
