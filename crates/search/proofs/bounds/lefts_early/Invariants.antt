use Rattle.std.proofs.Common.{ℕ, ◌<◌, get_or}
use Rattle.rules.specs.declared.term.Term.TheVariants.{Variable}
use Rattle.search.specs.Placings.{Early}
use Rattle.search.proofs.bounds.lefts_early.Given as goal

abbrev pub invariant-loop-v : goal.invariant-loop-v
invariant-loop-v l = (k : ℕ) → k < l.v-index → Early l.rule l.rows (Variable (get_or l.v-items k 0))
