use Rattle.std.proofs.Common.{rules}
use Rattle.search.proofs.Tabled.{add-went, add-covered}
use Rattle.search.proofs.ground.Ground.add.Goals as goal

pub returns : goal.returns
returns g c = record {
  went = add-went _ _ _ _ _ _ (search rules) (search rules) (search rules) c.requires.room c.requires.within c.requires.home c.requires.fine c.requires.lands c.requires.new;
  added = add-covered (g.R.Relation.meaning c.args.self.now.relation.now).rows c.args.self.now.rule.now c.args.self.now.plan.now c.args.seen.now c.args.placing.now c.args.home (search rules) (search rules) (search rules) c.requires.room c.requires.within;
}
