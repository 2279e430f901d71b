use Rattle.law.proofs.Stands.{finish_promised}
use Rattle.law.proofs.laws.every_finish_promised.Goals as goal

pub returns : goal.returns
returns c = finish_promised
