use Rattle.rules.specs.Loaded.{meant, no_term}
use Rattle.rules.proofs.Copies.{copied_pair}
use Rattle.rules.proofs.Fills.{Changed}
use Rattle.rules.proofs.doubling.doubled_pairs.Given as goal

abbrev pub invariant-loop-pair : goal.invariant-loop-pair
invariant-loop-pair l = Changed (copied_pair (meant l.rule).left) (no_term, no_term) l.rule.pairs l.pair-items l.pair-index
