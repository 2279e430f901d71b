use Rattle.std.proofs.Common.{◌+◌, ◌*◌, drop, arith}
use Rattle.std.proofs.lemmas.Grind.{common_steps}
use Rattle.text.proofs.Steps.{too_large}
use Rattle.text.proofs.counts.parse_count.Goals as goal

pub returns-then-value-from : goal.returns-then-value-from
returns-then-value-from c =
    let large = too_large c.args.low c.args.high (c.loop-b.value * 10 + c.from.result) (drop (c.loop-b.b-index + 1) c.args.word.now) (omega arith) in
    grind (arith, common_steps, large)
