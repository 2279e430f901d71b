use Rattle.law.proofs.Ends.{every-ends}
use Rattle.law.proofs.laws.every_trial_ends.Goals as goal

pub returns : goal.returns
returns c = every-ends
