use Rattle.std.proofs.Common.{Some, arith}
use Rattle.law.specs.declared.outcome.Verdict.TheVariants.{Void}
use Rattle.trial.specs.Faults.{trial_refusal}
use Rattle.trial.specs.Views.{view}
use Rattle.trial.proofs.Goings.{finish_void, finish_ran, finished_held}
use Rattle.trial.proofs.stepping.finish_held.Goals as goal

pub returns-in_default : goal.returns-in_default
returns-in_default g c =
    let b = g.B.Book.meaning c.args.book.now in
    let o = c.args.held in
    let refusal = trial_refusal c.in_default.field-0 in
    finished_held b (g.B.Book.well c.args.book.now) 65 o (record { held = o; verdict = Void })
    (finish_void b 65 refusal.number refusal.place (view o) (view o) c.in_default.ensures.0)

pub returns : goal.returns
returns g c =
    let b = g.B.Book.meaning c.args.book.now in
    let ran = c.in-Ok.ran in
    let held = ran.held in
    let v = c.judge-verdict.result in
    let few = held.few in
    finished_held b (g.B.Book.well c.args.book.now) 65 c.args.held (record { held = Some held; verdict = v })
    (finish_ran b 65 ran.made (view c.args.held) held ran.stop v c.in-Ok.ensures.0 (omega arith) c.judge-verdict.ensures)
