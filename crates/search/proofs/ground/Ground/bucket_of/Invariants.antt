use Rattle.std.proofs.Common.{◌≡◌, ◌^◌, ◌<◌}
use Rattle.search.specs.Seens.{hashed}
use Rattle.search.proofs.ground.Ground.bucket_of.Given as goal

abbrev pub invariant-loop-v : goal.invariant-loop-v
invariant-loop-v g l = (l.hash < 2 ^ 64) × (l.hash ≡ hashed (g.R.Relation.meaning l.self.relation.now).rows l.self.rule.now l.self.plan.now l.placing.rows l.v-index)
