use Rattle.search.specs.Seens.{Walk}
use Rattle.search.proofs.ground.Ground.look_up.Given as goal

abbrev pub invariant-loop-at : goal.invariant-loop-at
invariant-loop-at g l = Walk (g.R.Relation.meaning l.self.relation.now).rows l.self.rule.now l.self.plan.now l.seen l.placing.rows l.home l.at

abbrev pub decreases-loop-at : goal.decreases-loop-at
decreases-loop-at g l = l.at
