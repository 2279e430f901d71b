use Rattle.std.proofs.Common.{replicate, subst, arith}
use Rattle.std.proofs.lemmas.Bool.{false≢true}
use Rattle.search.specs.Placings.{With}
use Rattle.search.specs.Seens.{Covered}
use Rattle.search.proofs.Walks.{tried_clash}
use Rattle.search.proofs.Groups.{first-grouped, went_none, went_most}
use Rattle.search.proofs.grouped.try_group.Goals as goal

pub returns-then-lands : goal.returns-then-lands
returns-then-lands g c = first-grouped (g.R.Relation.meaning c.args.relation.now).rows c.args.look.now.rule c.args.look.now.plan c.args.choices.now c.requires.ready.planned.origins c.args.scratch.now.seen c.extend.new.scratch.seen _ _ c.row.ensures c.requires.ready.groupable.sound.some c.extend.result c.extend.ensures

pub returns : goal.returns
returns g c =
    let rel = (g.R.Relation.meaning c.args.relation.now).rows in
    let rule = c.args.look.now.rule in
    let plan = c.args.look.now.plan in
    let seen = c.args.scratch.now.seen in (
      went_most rel rule plan seen seen 0 _ (went_none rel rule plan seen c.requires.fine) (omega arith),
      subst (λ k. With rel rule 0 (replicate 4 0) k (Covered rel rule plan seen)) c.row.ensures (tried_clash rel rule plan c.requires.ready.planned.origins 0 c.row.result (replicate 4 0) (omega arith) c.requires.ready.groupable.sound.some (Covered rel rule plan seen) (λ lands. false≢true (c.if-lands.ensures.no lands))),
    )
