use Rattle.keys.proofs.Firsts.{faults}
use Rattle.keys.proofs.laws.faults_stand.Goals as goal

pub returns : goal.returns
returns c = faults
