use Rattle.std.proofs.Common.{get_or, vec_items, arith}
use Rattle.std.proofs.lemmas.Option.{slice_get-get_or}
use Rattle.summary.proofs.Steps.{some_rule, after-step, begins-step}
use Rattle.summary.proofs.beginning.push_begins.Goals as goal

pub loop-rule-preserved : goal.loop-rule-preserved
loop-rule-preserved g c =
    let rules = (g.B.Book.meaning c.args.book.now).rules in
    let i = c.loop-rule.rule in
    let many = c.count_lines-line.ensures.is (get_or rules i some_rule) (slice_get-get_or rules i some_rule (omega arith)) in (
      after-step rules i (omega arith) c.loop-rule.line c.count_lines-line.result _ many c.loop-rule.invariant.0,
      begins-step rules i (omega arith) c.args.what.now c.loop-rule.line c.count_lines-line.result (vec_items c.loop-rule.out) (vec_items c.push_begin.new.out) _ many c.in_ok-push_begin.ensures c.loop-rule.invariant.1,
      omega (arith, c.loop-rule.invariant.2, c.count_lines-line.ensures.few),
    )
