use Rattle.std.proofs.Common.{◌≤◌, length, Ok, Err, sym, refl, ap, ◌∙◌, subst, arith}
use Rattle.reader.specs.Format.{read_text}
use Rattle.reader.specs.Reads.{Lengths, rooms_in}
use Rattle.writing.specs.Enough.{enough}
use Rattle.writing.specs.Reports.{refusal_text}
use Rattle.spelling.specs.Room.{most}
use Rattle.report.specs.Answered.{AnswerOf, Printed}
use Rattle.report.proofs.Printing.{printed_ok, printed_err, enough-is}
use Rattle.report.proofs.answer.put_answer.Goals as goal

pub returns-in-Ok : goal.returns-in-Ok
returns-in-Ok c =
    let text = c.args.text.now in
    let lent = c.report.new.lent in
    let out = c.report.new.output in
    let told = subst (λ (l : Lengths). AnswerOf (read_text (rooms_in l) text) text l (length c.args.output.now) (Ok c.in-Ok.size) lent.rules.now lent.targets.now lent.names.now out) c.requires.lent c.in-Ok.ensures.answers in
    printed_ok (read_text (rooms_in most) text) text most (length c.args.output.now) c.in-Ok.size lent.rules.now lent.targets.now lent.names.now out told

pub returns-in-Err : goal.returns-in-Err
returns-in-Err c =
    let text = c.args.text.now in
    let lent = c.report.new.lent in
    let out = c.report.new.output in
    let told = subst (λ (l : Lengths). AnswerOf (read_text (rooms_in l) text) text l (length c.args.output.now) (Err c.in-Err.fault) lent.rules.now lent.targets.now lent.names.now out) c.requires.lent c.in-Err.ensures.answers in
    let long : enough ≤ length c.args.output.now = omega (arith, enough-is, c.requires.output) in
    let p = printed_err (read_text (rooms_in most) text) text most (length c.args.output.now) c.in-Err.fault lent.rules.now lent.targets.now lent.names.now out refl long told in
    subst (Printed (read_text (rooms_in most) text) text most) (sym (c.put_refusal.ensures ∙ ap refusal_text c.into.ensures)) p
