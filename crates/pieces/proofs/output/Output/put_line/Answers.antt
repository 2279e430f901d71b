use Rattle.std.proofs.Common.{◌≡◌, ◌∷◌, sym, ap, rules}
use Rattle.std.proofs.lemmas.List.{at_drop_more, at_drop_all, nil_from_length}
use Rattle.pieces.specs.Lines.{line_of, after}
use Rattle.pieces.proofs.Steps.{then-puts, exit_puts, as_puts}
use Rattle.pieces.proofs.output.Output.put_line.Goals as goal
use Rattle.pieces.proofs.output.Output.put_line.Goals.{in-Some+in_ok-put_piece+else-loop-piece-test, in_default}

pub returns-in_err-put_byte : goal.returns-in_err-put_byte
returns-in_err-put_byte c =
    let text = c.args.text.now in
    let whole : c.args.pieces.now ≡ c.in-Some.first.now ∷ c.in-Some.others.now = search rules in
    as_puts (sym (ap (line_of text) whole)) (then-puts _ c.in_ok-put_piece.ensures (c.loop-piece.invariant _ _ (as_puts (sym (at_drop_more (after text) c.in-Some.others.now c.loop-piece.piece-index c.in-Some.first.now c.loop-piece-test.true)) (exit_puts _ c.from_residual-in_err-put_byte.ensures.1 _ c.in_err-put_byte.ensures))))

pub returns-in_err-put_piece-2 : goal.returns-in_err-put_piece-2
returns-in_err-put_piece-2 c =
    let text = c.args.text.now in
    let whole : c.args.pieces.now ≡ c.in-Some.first.now ∷ c.in-Some.others.now = search rules in
    as_puts (sym (ap (line_of text) whole)) (then-puts _ c.in_ok-put_piece.ensures (c.loop-piece.invariant _ _ (as_puts (sym (at_drop_more (after text) c.in-Some.others.now c.loop-piece.piece-index _ c.loop-piece-test.true)) (then-puts _ c.in_ok-put_byte.ensures (exit_puts _ c.from_residual-in_err-put_piece-2.ensures.1 _ c.in_err-put_piece-2.ensures)))))

pub loop-piece-preserved : goal.loop-piece-preserved
loop-piece-preserved c =
    let text = c.args.text.now in
    λ r b p. c.loop-piece.invariant r b (as_puts (sym (at_drop_more (after text) c.in-Some.others.now c.loop-piece.piece-index _ c.loop-piece-test.true)) (then-puts _ c.in_ok-put_byte.ensures (then-puts _ c.in_ok-put_piece-2.ensures p)))

pub returns : goal.returns
returns c = elim c.match-split_first.branch [
  | in-Some+in_ok-put_piece+else-loop-piece-test w ↦
      let text = c.args.text.now in
      let last = c.put_byte-2.ensures in
      let whole : c.args.pieces.now ≡ w.in-Some.first.now ∷ w.in-Some.others.now = search rules in
      as_puts (sym (ap (line_of text) whole)) (then-puts _ w.in_ok-put_piece.ensures (w.loop-piece.invariant _ _ (as_puts (sym (at_drop_all (after text) w.in-Some.others.now w.loop-piece.piece-index w.loop-piece-test.false)) (rw w.self-is at last))))
  | in_default w ↦
      let last = c.put_byte-2.ensures in
      as_puts (sym (ap (line_of c.args.text.now) (nil_from_length c.args.pieces.now w.in_default.ensures.cases))) (rw w.self-is at last)
]
