use Rattle.law.proofs.Storing.{storing}
use Rattle.law.proofs.laws.storing_stands.Goals as goal

pub returns : goal.returns
returns c = storing
