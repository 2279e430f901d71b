use Rattle.rules.specs.Doubled.{copied}
use Rattle.rules.specs.Loaded.{meant, no_term}
use Rattle.rules.proofs.Fills.{Changed}
use Rattle.rules.proofs.doubling.copied_row.Given as goal

abbrev pub invariant-loop-term : goal.invariant-loop-term
invariant-loop-term l = Changed (copied (meant l.rule).left) no_term l.row.terms l.term-items l.term-index
