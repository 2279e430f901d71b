use Rattle.std.proofs.Common.{arith, below_more}
use Rattle.search.proofs.order.is_arranged.Goals as goal

pub loop-i-preserved : goal.loop-i-preserved
loop-i-preserved c = (below_more _ _ c.loop-i.invariant.0 (omega arith, c.is_same.ensures c.if-not-is_same.false), below_more _ _ c.loop-i.invariant.1 (c.is_somewhere.ensures c.if-not-is_somewhere.false))
