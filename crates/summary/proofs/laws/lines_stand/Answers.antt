use Rattle.summary.proofs.Stand.{lines_stand}
use Rattle.summary.proofs.laws.lines_stand.Goals as goal

pub returns : goal.returns
returns c = lines_stand
