use Rattle.std.proofs.Common.{arith}
use Rattle.rules.specs.Loaded.{loaded_pair, no_term}
use Rattle.search.specs.Placings.{Early}
use Rattle.search.proofs.Fronts.{counted_all}
use Rattle.search.proofs.bounds.rights_early.Goals as goal

pub returns : goal.returns
returns c = λ _. counted_all (no_term, no_term) (loaded_pair c.args.rule.now) c.args.rule.now.pair_count _ (c.pairs-pair-items.ensures.meant c.requires.groupable.sound.pairs) (λ k p. Early c.args.rule.now c.args.rows p.0) c.loop-pair.pair-index (omega arith) c.loop-pair.invariant
