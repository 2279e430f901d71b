use Rattle.outcomes.proofs.All.{outcomes_due}
use Rattle.outcomes.proofs.laws.outcomes_stand.Goals as goal

pub returns : goal.returns
returns c = outcomes_due
