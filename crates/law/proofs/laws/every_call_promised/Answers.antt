use Rattle.law.proofs.Stands.{call_promised}
use Rattle.law.proofs.laws.every_call_promised.Goals as goal

pub returns : goal.returns
returns c = call_promised
