use Rattle.search.proofs.Plans.{planned_all}
use Rattle.search.proofs.plan.plan_of.Goals as goal

pub returns : goal.returns
returns c = planned_all _ _ _ _ c.loop-row.invariant.1 c.origins_of-origins.ensures.rows c.origins_of-origins.ensures.origins c.loop-row-test.false c.loop-row.invariant.2
