use Rattle.std.proofs.Common.{replicate, subst, arith}
use Rattle.std.proofs.lemmas.Bool.{both_ways}
use Rattle.search.specs.Placings.{Joins, With}
use Rattle.search.proofs.Walks.{first-placed, tried_clash}
use Rattle.search.proofs.walk.try_place.Goals as goal

pub returns-then-lands : goal.returns-then-lands
returns-then-lands g c = first-placed (g.R.Relation.meaning c.args.relation.now).rows c.args.look.now.rule c.args.look.now.plan c.requires.ready.planned.origins _ _ c.row.ensures c.requires.ready.sound.some c.walk_from.result c.walk_from.ensures

pub returns : goal.returns
returns g c =
    let rel = (g.R.Relation.meaning c.args.relation.now).rows in
    let rule = c.args.look.now.rule in
    subst (λ k. With rel rule 0 (replicate 8 0) k (Joins rule)) c.row.ensures (tried_clash rel rule c.args.look.now.plan c.requires.ready.planned.origins 0 c.row.result (replicate 8 0) (omega arith) c.requires.ready.sound.some (Joins rule) (λ lands. both_ways _ c.if-lands.false (c.lands.ensures.no lands)))
