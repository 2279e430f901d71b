use Rattle.writing.proofs.Lengths.{always_enough}
use Rattle.writing.proofs.laws.enough_stands.Goals as goal

pub returns : goal.returns
returns c = always_enough
