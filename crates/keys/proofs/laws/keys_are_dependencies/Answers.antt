use Rattle.keys.proofs.Kept.{dependencies}
use Rattle.keys.proofs.laws.keys_are_dependencies.Goals as goal

pub returns : goal.returns
returns c = dependencies
