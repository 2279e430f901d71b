use Rattle.std.proofs.Common.{refl}
use Rattle.search.specs.Seens.{mix}
use Rattle.search.proofs.seen.mixed.Goals as goal

pub returns : goal.returns
unfolding mix
returns c = refl
