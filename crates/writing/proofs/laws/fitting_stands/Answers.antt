use Rattle.writing.proofs.Alike.{fitting}
use Rattle.writing.proofs.laws.fitting_stands.Goals as goal

pub returns : goal.returns
returns c = fitting
