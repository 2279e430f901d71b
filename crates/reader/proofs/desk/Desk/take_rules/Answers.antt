use Rattle.std.proofs.Common.{◌≡◌, ◌-◌, ◌+◌, [], ◌∷◌, replicate, Ok, Err, arith}
use Rattle.std.proofs.lemmas.Result.{err_from_is_err_and}
use Rattle.reader.specs.Format.{count, after_count, kind}
use Rattle.reader.proofs.Goings.{left_less, left_refused, left_none, then_takes}
use Rattle.reader.proofs.desk.Desk.take_rules.Goals as goal

pub loop-preserved : goal.loop-preserved
loop-preserved c =
    let many = c.in_ok-many.many in
    left_less kind many (many - c.loop.counter) c.take_count.new.self c.loop.self c.take_rule.new.self c.loop.invariant (omega arith) (many - (c.loop.counter + 1)) (omega arith) c.in_ok-take_rule.ensures

pub returns-in_err-take_rule : goal.returns-in_err-take_rule
returns-in_err-take_rule c =
    let many = c.in_ok-many.many in
    let y = c.in_err-take_rule.field-0.0 in
    let out = c.from_residual-in_err-take_rule in
    let p = err_from_is_err_and out.result out.ensures.1 in
    let is : out.result ≡ Err y = cc (p.1, p.2) in
    then_takes many (count c.args.counting ∷ []) (replicate many kind) (after_count c.args.counting) (λ u. []) out.result c.args.self.now c.take_count.new.self c.take_rule.new.self c.in_ok-many.ensures (c.requires.counts many)
    (left_refused kind many (many - c.loop.counter) c.take_count.new.self c.loop.self c.take_rule.new.self c.loop.invariant (omega arith) out.result y is c.in_err-take_rule.ensures)

pub returns : goal.returns
returns c =
    let many = c.in_ok-many.many in
    then_takes many (count c.args.counting ∷ []) (replicate many kind) (after_count c.args.counting) (λ u. []) (Ok tt) c.args.self.now c.take_count.new.self c.loop.self c.in_ok-many.ensures (c.requires.counts many)
    (left_none kind many (many - c.loop.counter) c.take_count.new.self c.loop.self c.loop.invariant (omega arith))
