use Rattle.std.proofs.Common.{◌≡◌, ℕ, ◌<◌, [], get_or}
use Rattle.rules.specs.Loaded.{loaded_term}
use Rattle.rules.specs.Rules.{at}
use Rattle.search.specs.Placings.{filled, place}
use Rattle.search.proofs.ground.Ground.lands.Given as goal

abbrev pub invariant-loop-column : goal.invariant-loop-column
invariant-loop-column g l =
    let rel = (g.R.Relation.meaning l.self.relation.now).rows in
    let p = g.P.Placement.places l.placing in
    (u : ℕ) → u < l.column-index → at (filled rel l.self.plan.now p) (loaded_term l.self.rule.now l.depth (get_or l.column-items u 0)) ≡ get_or (get_or rel (place p l.depth) []) (get_or l.column-items u 0) 0
