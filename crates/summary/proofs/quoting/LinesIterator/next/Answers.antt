use Rattle.std.proofs.Common.{◌+◌, ◌∷◌, map, sym, ap, ◌∙◌, rules, arith}
use Rattle.std.proofs.lemmas.Slice.{between_is}
use Rattle.text.specs.Lines.{lines_from}
use Rattle.text.proofs.Split.{line_next}
use Rattle.summary.proofs.quoting.LinesIterator.next.Goals as goal

pub returns-clause-steps : goal.returns-clause-steps
returns-clause-steps c =
    let t = c.args.self.now.text.now in
    let from = c.args.self.now.from in
    let end = c.line_end-end.result in
    ap (map (λ line. line.bytes)) (line_next t from end (omega (arith, c.if-self.false)) c.line_end-end.ensures.is)
    ∙ ap (λ bs. bs ∷ map (λ line. line.bytes) (lines_from t (end + 1))) (sym (between_is t from end))

pub returns-clause-goes : goal.returns-clause-goes
returns-clause-goes c = let e = returns-clause-steps c in search rules
