use Rattle.std.proofs.Common.{◌≡◌, length, subst, arith, rules, below_more}
use Rattle.std.proofs.lemmas.Bool.{both_ways}
use Rattle.search.specs.Placings.{From, Joins, With}
use Rattle.search.proofs.Walks.{joins_here, tried_clash, tried_next, tried_all}
use Rattle.search.proofs.walk.+walk_from.Goals as goal
use Rattle.search.proofs.walk.+walk_from.Goals.{then-lands+in_default, else-lands}

pub returns-in_err-difference : goal.returns-in_err-difference
returns-in_err-difference g t c =
    let rel = (g.R.Relation.meaning c.args.relation.now).rows in
    let joined : From rel c.args.look.now.rule c.args.depth c.args.places.rows (Joins c.args.look.now.rule) = joins_here (g.R.Relation.meaning c.args.relation.now).rows c.args.look.now.rule c.args.look.now.plan c.requires.ready.planned.origins _ c.args.places.rows c.if-depth-rule.true c.requires.ready.sound c.in_err-difference.ensures in
    search rules

pub loop-m-preserved : goal.loop-m-preserved
loop-m-preserved g t c =
    let rel = (g.R.Relation.meaning c.args.relation.now).rows in
    let rule = c.args.look.now.rule in
    let plan = c.args.look.now.plan in
    let places = c.args.places.rows in
    let long : length places ≡ 8 = search rules in
    below_more _ _ c.loop-m.invariant (subst (λ k. With rel rule c.args.depth places k (Joins rule)) c.row.ensures (elim c.if-lands.branch [
      | then-lands+in_default w ↦ tried_next rel rule plan c.requires.ready.planned.origins c.args.depth c.row.result places (omega (arith, c.requires.ready.sound.rows)) (omega arith) (Joins rule) w.in_default.ensures
      | else-lands w ↦ tried_clash rel rule plan c.requires.ready.planned.origins c.args.depth c.row.result places (omega (arith, c.requires.ready.sound.rows)) (omega arith) (Joins rule) (λ lands. both_ways _ w.if-lands.false (c.lands.ensures.no lands))
    ]))

pub returns : goal.returns
returns g t c = tried_all (g.R.Relation.meaning c.args.relation.now).rows c.args.look.now.rule c.args.look.now.plan (Joins c.args.look.now.rule) c.args.choices.now _ _ c.args.places.rows c.requires.picks (omega arith) (omega (arith, c.count-count.ensures)) c.loop-m.invariant
