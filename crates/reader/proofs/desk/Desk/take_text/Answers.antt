use Rattle.std.proofs.Common.{[], ◌∷◌, Err, sym, refl, ap, ◌∙◌, arith}
use Rattle.reader.specs.declared.desk.Counting.TheVariants as counting
use Rattle.reader.specs.Format.{count}
use Rattle.reader.specs.Held.{held, rooms_of}
use Rattle.reader.proofs.Goings.{rooms_same, sames_trans, surplus}
use Rattle.reader.proofs.desk.Desk.take_text.Goals as goal

pub returns-then-self-clause-cases : goal.returns-then-self-clause-cases
returns-then-self-clause-cases c =
    let rooms = rooms_of c.args.self.now in
    let a = c.in_ok-take_count.ensures in
    let b = c.in_ok-take_rules.ensures in
    let d = c.in_ok-take_rules-2.ensures in
    let last = c.take_rules-2.new.self in
    a.goes rooms refl (count counting.Rules ∷ count counting.Targets ∷ []) ∙ b.goes rooms (sym (rooms_same a.same)) (count counting.Targets ∷ []) ∙ d.goes rooms (sym (rooms_same (sames_trans a.same b.same))) []
    ∙ surplus rooms last.at.line (held last) last.text.now last.at.from (omega arith) ∙ ap Err (sym c.fault.ensures)
