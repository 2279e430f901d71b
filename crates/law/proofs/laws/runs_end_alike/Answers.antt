use Rattle.law.proofs.RunEnds.{runs_alike}
use Rattle.law.proofs.laws.runs_end_alike.Goals as goal

pub returns : goal.returns
returns c = runs_alike
