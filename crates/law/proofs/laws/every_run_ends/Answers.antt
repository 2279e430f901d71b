use Rattle.law.proofs.RunEnds.{run_ends}
use Rattle.law.proofs.laws.every_run_ends.Goals as goal

pub returns : goal.returns
returns c = run_ends
