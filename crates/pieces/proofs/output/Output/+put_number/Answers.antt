use Rattle.std.proofs.Common.{◌≡◌, ◌+◌, ◌%◌, [], ◌∷◌, sym, ap, ◌∙◌, arith}
use Rattle.std.proofs.lemmas.Fmt.{decimal_digit, decimal_step}
use Rattle.pieces.proofs.Steps.{then-puts, exit_puts, as_puts}
use Rattle.pieces.proofs.output.Output.+put_number.Goals as goal
use Rattle.pieces.proofs.output.Output.+put_number.Goals.{then-n-ge10+in_ok-put_number, else-n-ge10}

pub returns-in_err-put_number : goal.returns-in_err-put_number
returns-in_err-put_number t c = as_puts (sym (decimal_step c.args.n (omega arith) (omega arith))) (exit_puts c.from_residual.result c.from_residual.ensures.1 ((48 + c.args.n % 10) ∷ []) c.in_err-put_number.ensures)

pub returns : goal.returns
returns t c = elim c.if-n-ge10.branch [
  | then-n-ge10+in_ok-put_number w ↦
      let last = c.put_byte.ensures in
      as_puts (sym (decimal_step c.args.n (omega arith) (omega arith))) (then-puts c.put_byte.result w.in_ok-put_number.ensures (rw w.self-is at last))
  | else-n-ge10 w ↦
      let last = c.put_byte.ensures in
      let digit : 48 + c.args.n % 10 ≡ 48 + c.args.n = omega arith in
      as_puts (ap (λ b. b ∷ []) digit ∙ sym (decimal_digit c.args.n (omega arith))) (rw w.self-is at last)
]
