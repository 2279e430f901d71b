use Rattle.rules.proofs.Doubles.{doubling}
use Rattle.rules.proofs.laws.doubling_stands.Goals as goal

pub returns : goal.returns
returns c = doubling
