use Rattle.law.proofs.Unmoved.{unmoved}
use Rattle.law.proofs.laws.keeping_unmoved.Goals as goal

pub returns : goal.returns
returns c = unmoved
