use Rattle.search.proofs.Picked.{picks_all}
use Rattle.search.proofs.choices.choices_of.Goals as goal

pub returns-then-count-gt8 : goal.returns-then-count-gt8
returns-then-count-gt8 g c = picks_all (g.R.Relation.meaning c.args.relation.now).rows _ c.rows-count.ensures
