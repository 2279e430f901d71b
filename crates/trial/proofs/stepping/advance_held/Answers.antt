use Rattle.std.proofs.lemmas.Result.{err_from_is_err_and}
use Rattle.law.specs.declared.outcome.Stop.TheVariants.{Clash}
use Rattle.trial.proofs.Goings.{advance_clashed, advance_ran, advanced_held, refused_held}
use Rattle.trial.proofs.stepping.advance_held.Goals as goal

pub returns-in_err-held : goal.returns-in_err-held
returns-in_err-held g c =
    let p = err_from_is_err_and c.from_residual.result c.from_residual.ensures.1 in
    rw (p.1, p.2) (refused_held (g.B.Book.meaning c.args.book.now) (g.B.Book.well c.args.book.now) c.args.n c.args.held c.in_err-held.field-0.0 c.in_err-held.ensures)

pub returns-then-held : goal.returns-then-held
returns-then-held g c =
    let b = g.B.Book.meaning c.args.book.now in
    let h = c.in_ok-held.held in
    let (is, width) = c.in_ok-held.ensures in
    advanced_held b (g.B.Book.well c.args.book.now) c.args.n c.args.held h is (record { held = h; made = 0; stop = Clash }) (advance_clashed b c.args.n h width c.if-held.true)

pub returns : goal.returns
returns g c =
    let b = g.B.Book.meaning c.args.book.now in
    let h = c.in_ok-held.held in
    let ran = c.run.result in
    let (is, width) = c.in_ok-held.ensures in
    advanced_held b (g.B.Book.well c.args.book.now) c.args.n c.args.held h is ran (advance_ran b c.args.n h width c.if-held.false ran.held ran.made ran.stop c.run.ensures)
