use Rattle.std.proofs.Common.{ℕ, ◌<◌, get_or}
use Rattle.rules.specs.Loaded.{no_term}
use Rattle.search.specs.Placings.{Early}
use Rattle.search.proofs.bounds.rights_early.Given as goal

abbrev pub invariant-loop-pair : goal.invariant-loop-pair
invariant-loop-pair l = (k : ℕ) → k < l.pair-index → Early l.rule l.rows (get_or l.pair-items k (no_term, no_term)).0
