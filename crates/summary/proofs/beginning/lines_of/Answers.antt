use Rattle.std.proofs.Common.{ap, arith}
use Rattle.summary.specs.Summary.{list_lines}
use Rattle.summary.proofs.Steps.{lines_meant}
use Rattle.summary.proofs.beginning.lines_of.Goals as goal

pub returns-in-Functional-clause-is : goal.returns-in-Functional-clause-is
returns-in-Functional-clause-is c =
    let l = c.args.it.now in
    let k = ap (λ k. list_lines k l.left_count l.pair_count) c.in-Functional.is in
    omega (arith, lines_meant l, k)

pub returns-in-Equality-clause-is : goal.returns-in-Equality-clause-is
returns-in-Equality-clause-is c =
    let l = c.args.it.now in
    let k = ap (λ k. list_lines k l.left_count l.pair_count) c.in-Equality.is in
    omega (arith, lines_meant l, k)
