use Rattle.std.proofs.Common.{Err, sym, ap, ◌∙◌, arith}
use Rattle.text.proofs.Split.{line_next}
use Rattle.reader.proofs.Goings.{line_dirty}
use Rattle.reader.proofs.desk.Desk.open_line.Goals as goal

pub returns-then-not-line_clean : goal.returns-then-not-line_clean
returns-then-not-line_clean c =
    let t = c.args.self.now.text.now in
    let at = c.args.self.now.at in
    let end = c.line_end-end.result in
    λ rooms m d ds. line_dirty rooms at.line m d ds t at.from end (line_next t at.from end (omega arith) c.line_end-end.ensures.is) (sym c.line_clean.ensures ∙ c.if-not-line_clean.true) ∙ ap Err (sym c.fault-then-not-line_clean.ensures)

pub returns : goal.returns
returns c =
    let t = c.args.self.now.text.now in
    let at = c.args.self.now.at in
    let end = c.line_end-end.result in
    (omega arith, c.line_end-end.ensures.bound (omega arith), sym c.line_clean.ensures ∙ c.if-not-line_clean.false, line_next t at.from end (omega arith) c.line_end-end.ensures.is)
