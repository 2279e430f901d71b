use Rattle.std.proofs.Common.{refl}
use Rattle.search.proofs.Orders.{in_place}
use Rattle.search.proofs.order.in_order.Goals as goal

pub returns : goal.returns
returns c = record { same = refl; order = in_place c.args.rule.now c.requires.few }
