use Rattle.std.proofs.Common.{◌-◌}
use Rattle.reader.specs.Format.{kind}
use Rattle.reader.proofs.Goings.{Left}
use Rattle.reader.proofs.desk.Desk.take_rules.Given as goal

abbrev pub invariant-loop : goal.invariant-loop
invariant-loop l = Left kind l.many (l.many - l.counter) l.initial.self l.self
