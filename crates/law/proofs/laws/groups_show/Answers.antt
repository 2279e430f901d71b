use Rattle.law.proofs.Kept.{shows}
use Rattle.law.proofs.laws.groups_show.Goals as goal

pub returns : goal.returns
returns c = shows
