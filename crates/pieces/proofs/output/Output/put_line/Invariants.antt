use Rattle.std.proofs.Common.{drop, Result}
use Rattle.pieces.specs.declared.output.Output.{Output}
use Rattle.pieces.specs.declared.output.Short.{Short}
use Rattle.pieces.specs.Put.{Puts}
use Rattle.pieces.specs.Lines.{after}
use Rattle.pieces.proofs.output.Output.put_line.Given as goal

-- whatever comes of the pieces that are left comes of all after the first
abbrev pub invariant-loop-piece : goal.invariant-loop-piece
invariant-loop-piece l =
    (r : Result (Unit {0}) Short) (b : Output) → Puts l.self (after l.text (drop l.piece-index l.others)) r b → Puts l.initial.self (after l.text l.others) r b
