use Rattle.std.proofs.Common.{◌≡◌, ℕ, ◌<◌, get_or}
use Rattle.rules.specs.Loaded.{no_term}
use Rattle.rules.specs.Rules.{at}
use Rattle.search.specs.Placings.{filled}
use Rattle.search.proofs.ground.Ground.differing.Given as goal

abbrev pub invariant-loop-pair : goal.invariant-loop-pair
invariant-loop-pair g l =
    let rel = (g.R.Relation.meaning l.self.relation.now).rows in
    (k : ℕ) → k < l.pair → at (filled rel l.self.plan.now (g.P.Placement.places l.a)) (get_or l.sides-items k (no_term, no_term)).0 ≡ at (filled rel l.self.plan.now (g.P.Placement.places l.b)) (get_or l.sides-items k (no_term, no_term)).1
