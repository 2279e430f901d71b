use Rattle.std.proofs.Common.{◌-◌}
use Rattle.reader.specs.Format.{entry}
use Rattle.reader.proofs.Goings.{Left}
use Rattle.reader.proofs.desk.Desk.take_list.Given as goal

abbrev pub invariant-loop : goal.invariant-loop
invariant-loop l = Left (entry l.form) l.many (l.many - l.counter) l.initial.self l.self
