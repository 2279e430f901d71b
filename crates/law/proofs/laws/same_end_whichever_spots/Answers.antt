use Rattle.law.proofs.SameEnd.{same_end}
use Rattle.law.proofs.laws.same_end_whichever_spots.Goals as goal

pub returns : goal.returns
returns c = same_end
