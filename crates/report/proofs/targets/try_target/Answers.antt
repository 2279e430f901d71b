use Rattle.trial.specs.Tells.{told}
use Rattle.outcomes.specs.Laws.{outcome_of}
use Rattle.report.proofs.Tried.{err_cases, begins, refuses, tried_due, due-narrow}
use Rattle.report.proofs.targets.try_target.Goals as goal

pub returns-in_err-start : goal.returns-in_err-start
returns-in_err-start g c =
    let b = g.B.Book.meaning c.args.book.now in
    let ts = g.T.Book.meaning c.args.targets.now in
    err_cases c.from_residual.result _ _ _ c.from_residual.ensures.1 (refuses b ts c.args.i c.blank-trial.ensures c.in_err-start.ensures.answered)

pub invariant_of-result : goal.invariant_of-result
invariant_of-result g c =
    let b = g.B.Book.meaning c.args.book.now in
    let ts = g.T.Book.meaning c.args.targets.now in
    let start = begins b ts c.args.i c.blank-trial.ensures c.in_ok-start.ensures.answered in
    let f = told c.finish.result in
    let due = tried_due b (g.B.Book.well c.args.book.now) ts (g.T.Book.well c.args.targets.now) start.width c.args.i start f c.finish.ensures.answered in
    record { narrow = due-narrow b (g.B.Book.well c.args.book.now) ts (g.T.Book.well c.args.targets.now) start.width c.args.i (outcome_of f) due }

pub returns : goal.returns
returns g c =
    let b = g.B.Book.meaning c.args.book.now in
    let ts = g.T.Book.meaning c.args.targets.now in
    let start = begins b ts c.args.i c.blank-trial.ensures c.in_ok-start.ensures.answered in
    tried_due b (g.B.Book.well c.args.book.now) ts (g.T.Book.well c.args.targets.now) start.width c.args.i start (told c.finish.result) c.finish.ensures.answered
