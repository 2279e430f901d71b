use Rattle.law.proofs.Kept.{kept}
use Rattle.law.proofs.laws.promise_kept.Goals as goal

pub returns : goal.returns
returns c = kept
