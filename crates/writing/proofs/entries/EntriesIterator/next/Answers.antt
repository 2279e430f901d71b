use Rattle.std.proofs.Common.{[], length, get_or, ap, ◌∙◌, sym, arith, rules, length-drop}
use Rattle.writing.specs.Outcomes.{rows_of}
use Rattle.writing.proofs.InRow.{entry_left, no_entry_left}
use Rattle.writing.proofs.entries.EntriesIterator.next.Goals as goal

pub returns-in_err-e-clause-steps : goal.returns-in_err-e-clause-steps
returns-in_err-e-clause-steps g c =
    let none = sym c.self.view_is ∙ no_entry_left (g.F.Told.outcome c.self.inside.told.now) c.self.inside.row c.self.inside.column c.in_err-e.ensures in
    search (rules, none)

pub invariant_of-self : goal.invariant_of-self
invariant_of-self g c =
    let o = g.F.Told.outcome c.self.inside.told.now in
    let row = get_or (rows_of o) c.self.inside.row [] in
    let left = entry_left o c.self.inside.row c.self.inside.column c.in_ok-e.e c.in_ok-e.ensures in
    omega (arith, length-drop c.self.inside.column row, ap length left, g.F.Told.narrow c.self.inside.told.now c.self.inside.row)

pub returns-clause-steps : goal.returns-clause-steps
returns-clause-steps g c =
    sym c.self.view_is ∙ entry_left (g.F.Told.outcome c.self.inside.told.now) c.self.inside.row c.self.inside.column c.in_ok-e.e c.in_ok-e.ensures

pub returns-clause-goes : goal.returns-clause-goes
returns-clause-goes g c =
    let shorter = ap length (sym c.self.view_is ∙ entry_left (g.F.Told.outcome c.self.inside.told.now) c.self.inside.row c.self.inside.column c.in_ok-e.e c.in_ok-e.ensures) in
    search rules
