use Rattle.law.proofs.Deciding.{decided}
use Rattle.law.proofs.laws.implied_or_broken.Goals as goal

pub returns : goal.returns
returns c = decided
