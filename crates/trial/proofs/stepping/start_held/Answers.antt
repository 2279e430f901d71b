use Rattle.std.proofs.lemmas.Option.{MatchOption-at_some}
use Rattle.std.proofs.lemmas.Result.{err_from_is_err_and}
use Rattle.trial.proofs.Begins.{refused_held, started_held}
use Rattle.trial.proofs.stepping.start_held.Goals as goal

pub returns-in_err-check_start : goal.returns-in_err-check_start
returns-in_err-check_start g c =
    let p = err_from_is_err_and c.from_residual.result c.from_residual.ensures.1 in
    rw (p.1, p.2) (
    refused_held (g.B.Book.meaning c.args.book.now) (g.B.Book.well c.args.book.now) (g.T.Book.meaning c.args.targets.now) (g.T.Book.well c.args.targets.now)
    c.args.number c.args.held.now c.in_err-check_start.field-0.0 c.in_err-check_start.ensures
    )

pub returns : goal.returns
returns g c =
    let (blank, within, width) = c.in_ok-check_start.ensures in
    let d = c.in_ok-target.target in
    started_held (g.B.Book.meaning c.args.book.now) (g.B.Book.well c.args.book.now) (g.T.Book.meaning c.args.targets.now) (g.T.Book.well c.args.targets.now)
    c.args.number c.args.held.now blank width d (MatchOption-at_some _ _ d c.in_ok-target.ensures.ok_part c.load_doubled.ensures)
    c.fresh.result c.fresh.ensures.target c.fresh.ensures.alone c.fresh.ensures.merges c.fresh.ensures.calm
