use Rattle.std.proofs.Common.{arith}
use Rattle.rules.specs.Loaded.{meant}
use Rattle.trial.proofs.Begins.{few_groups}
use Rattle.trial.proofs.held.Held.fresh.Goals as goal

pub invariant_of-result : goal.invariant_of-result
invariant_of-result c =
    let few = few_groups (meant c.args.target) c.requires c.alone.result c.alone.ensures in
    record { form = ∣ c.requires ∣₁; few = omega arith }
