use Rattle.std.proofs.Common.{[], refl, arith}
use Rattle.search.proofs.Plans.{rows_none}
use Rattle.search.proofs.plan.origins_of.Goals as goal

pub loop-m-init : goal.loop-m-init
loop-m-init c = (refl, rows_none c.args.rule.now [] c.requires.some, λ i low h. absurd (omega arith))
