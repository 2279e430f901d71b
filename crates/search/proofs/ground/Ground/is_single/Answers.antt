use Rattle.std.proofs.Common.{sym, subst}
use Rattle.search.specs.Placings.{Single}
use Rattle.search.proofs.ground.Ground.is_single.Goals as goal

pub returns-in-Some : goal.returns-in-Some
returns-in-Some g c = λ so. subst (Single (g.R.Relation.meaning c.args.self.now.relation.now).rows c.args.self.now.rule.now) (sym c.in-Variable.is) (c.is_single_at.ensures so)
