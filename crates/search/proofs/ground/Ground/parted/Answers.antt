use Rattle.search.proofs.Groups.{right_sides}
use Rattle.search.proofs.ground.Ground.parted.Goals as goal

pub returns : goal.returns
returns g c = right_sides (g.R.Relation.meaning c.args.self.now.relation.now).rows c.args.self.now.rule.now c.args.self.now.plan.now _ _ _ c.requires.groupable c.differing.result c.differing.ensures
