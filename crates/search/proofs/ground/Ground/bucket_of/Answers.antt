use Rattle.std.proofs.Common.{arith}
use Rattle.rules.specs.Loaded.{left_var}
use Rattle.search.proofs.Fronts.{counted-long}
use Rattle.search.proofs.Tabled.{hash_bucket}
use Rattle.search.proofs.ground.Ground.bucket_of.Goals as goal

pub returns-clause-value : goal.returns-clause-value
returns-clause-value g c =
    let long = counted-long 0 (left_var c.args.self.now.rule.now) c.args.self.now.rule.now.left_count _ (c.left-v-items.ensures.meant c.requires.groupable.left) in
    hash_bucket (g.R.Relation.meaning c.args.self.now.relation.now).rows c.args.self.now.rule.now c.args.self.now.plan.now c.args.placing.now.rows _ _ c.loop-v.invariant.1 (omega (arith, long))
