use Rattle.rules.proofs.Reading.{reading}
use Rattle.rules.proofs.laws.keeping_reads.Goals as goal

pub returns : goal.returns
returns c = reading
