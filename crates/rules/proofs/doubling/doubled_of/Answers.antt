use Rattle.std.proofs.Common.{◌+◌, refl}
use Rattle.rules.specs.declared.term.Kind.TheVariants.{Equality}
use Rattle.rules.proofs.Copies.{doubled-functional}
use Rattle.rules.proofs.doubling.doubled_of.Goals as goal

pub returns-in-Functional-clause-means : goal.returns-in-Functional-clause-means
returns-in-Functional-clause-means c =
    let l = c.args.rule.now in
    doubled-functional l (record { kind = Equality; width = l.width; rows = c.doubled_rows.result; row_count = l.row_count + l.row_count; left = l.left; left_count = 0; pairs = c.doubled_pairs.result; pair_count = l.pair_count }) c.in-Functional.is refl refl refl refl refl c.doubled_rows.ensures.first c.doubled_rows.ensures.second c.doubled_pairs.ensures
