use Rattle.std.proofs.Common.{rules}
use Rattle.trial.proofs.fresh.alone.Goals as goal

pub returns : goal.returns
returns c = λ v l. let (p, q, made) = c.from_fn.ensures.items.at v 0 l in search rules
