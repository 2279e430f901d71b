use Rattle.std.proofs.Common.{arith}
use Rattle.rules.specs.declared.term.Term.TheVariants.{Variable}
use Rattle.rules.specs.Loaded.{left_var}
use Rattle.search.specs.Placings.{Early}
use Rattle.search.proofs.Fronts.{counted_all}
use Rattle.search.proofs.bounds.lefts_early.Goals as goal

pub returns : goal.returns
returns c = λ _. counted_all 0 (left_var c.args.rule.now) c.args.rule.now.left_count _ (c.left-v-items.ensures.meant c.requires.groupable.left) (λ k v. Early c.args.rule.now c.args.rows (Variable v)) c.loop-v.v-index (omega arith) c.loop-v.invariant
