use Rattle.search.specs.declared.find.Scratch.{Scratch}
use Rattle.std.proofs.Common.{ap, ◌≡◌, ◌+◌, length, sym, refl, subst, arith, rules}
use Rattle.std.proofs.lemmas.Bool.{both_ways}
use Rattle.search.specs.Seens.{Turn}
use Rattle.search.proofs.Walks.{landed_more}
use Rattle.search.proofs.Groups.{settle-covers, went_none, went_most, covers_early, turn_room, turn_next, turn_last, turn_clash, turn_all}
use Rattle.search.proofs.grouped.+extend.Goals as goal
use Rattle.search.proofs.grouped.+extend.Goals.{then-lands+in_default+else-is_last, else-lands}

pub returns-then-depth-rule : goal.returns-then-depth-rule
returns-then-depth-rule g t c = settle-covers (g.R.Relation.meaning c.args.relation.now).rows c.args.look.now.rule c.args.look.now.plan c.args.choices.now c.settle.result _ _ _ _ c.requires.ready.planned.origins c.if-depth-rule.true c.requires.ready.groupable c.settle.ensures

pub returns-then-is_covered : goal.returns-then-is_covered
returns-then-is_covered g t c = (went_most _ _ _ _ _ _ _ (went_none _ _ _ _ c.requires.fine) (omega arith), covers_early (g.R.Relation.meaning c.args.relation.now).rows c.args.look.now.rule c.args.look.now.plan c.requires.ready.planned.origins c.args.scratch.now.seen _ _ c.args.placing.rows c.requires.ready.bounded c.if-bound-depth.true (c.is_covered.ensures c.if-is_covered.true))

pub extend-requires : goal.extend-requires
extend-requires g t c κs within =
    let long : length c.args.placing.rows ≡ 4 = search rules in (
      search rules,
      (
        search rules,
        (
          search rules,
          (
            search rules,
            (
              search rules,
              (
                search rules,
                (
                  turn_room (g.R.Relation.meaning c.args.relation.now).rows c.args.look.now.rule c.args.look.now.plan c.args.choices.now c.args.scratch.now.seen _ _ _ c.args.placing.rows (omega arith) (omega arith) c.loop-m.invariant c.requires.room,
                  landed_more _ _ c.args.look.now.plan c.requires.ready.planned.origins _ _ c.args.placing.rows (omega (arith, c.requires.ready.groupable.few)) (omega arith) c.requires.lands (c.if-lands.ensures.yes refl),
                ),
              ),
            ),
          ),
        ),
      ),
    )

pub loop-m-preserved : goal.loop-m-preserved
loop-m-preserved g t c =
    let rel = (g.R.Relation.meaning c.args.relation.now).rows in
    let rule = c.args.look.now.rule in
    let plan = c.args.look.now.plan in
    let placing = c.args.placing.rows in
    let long : length placing ≡ 4 = search rules in
    elim c.if-lands.branch [
      | then-lands+in_default+else-is_last w ↦ subst (λ x. Turn rel rule plan c.args.choices.now c.args.scratch.now.seen x c.args.depth placing (c.loop-m.m + 1)) (sym (ap (λ (s : Scratch). s.seen) w.scratch-is)) (turn_next rel rule plan c.args.choices.now c.requires.ready.planned.origins c.args.scratch.now.seen c.loop-m.scratch.seen c.args.depth c.loop-m.m c.row.result placing c.row.ensures (omega (arith, c.requires.ready.groupable.few)) (omega arith) _ c.loop-m.invariant w.in_default.ensures)
      | else-lands w ↦ subst (λ x. Turn rel rule plan c.args.choices.now c.args.scratch.now.seen x c.args.depth placing (c.loop-m.m + 1)) (sym (ap (λ (s : Scratch). s.seen) w.scratch-is)) (turn_clash rel rule plan c.args.choices.now c.requires.ready.planned.origins c.args.scratch.now.seen c.loop-m.scratch.seen c.args.depth c.loop-m.m c.row.result placing c.row.ensures (omega (arith, c.requires.ready.groupable.few)) (omega arith) c.loop-m.invariant (λ lands. both_ways _ w.if-lands.false (c.lands.ensures.no lands)))
    ]

pub returns-then-is_last : goal.returns-then-is_last
returns-then-is_last g t c =
    let rel = (g.R.Relation.meaning c.args.relation.now).rows in
    let rule = c.args.look.now.rule in
    let plan = c.args.look.now.plan in
    let placing = c.args.placing.rows in
    let long : length placing ≡ 4 = search rules in
    turn_last rel rule plan c.args.choices.now c.requires.ready.planned.origins c.args.scratch.now.seen c.loop-m.scratch.seen c.args.depth c.loop-m.m c.row.result placing c.row.ensures (omega (arith, c.requires.ready.groupable.few)) (omega arith) _ c.args.look.now.bound (omega (arith, c.count-count.ensures)) c.requires.ready.bounded (c.is_last.ensures c.if-is_last.true).0 (c.is_last.ensures c.if-is_last.true).1 c.loop-m.invariant
    (landed_more rel rule plan c.requires.ready.planned.origins _ _ placing (omega (arith, c.requires.ready.groupable.few)) (omega arith) c.requires.lands (c.lands.ensures.yes c.if-lands.true))
    c.in_default.ensures

pub returns : goal.returns
returns g t c = turn_all (g.R.Relation.meaning c.args.relation.now).rows c.args.look.now.rule c.args.look.now.plan c.args.choices.now c.args.scratch.now.seen c.loop-m.scratch.seen c.args.depth c.loop-m.m c.args.placing.rows c.requires.picks (omega arith) (omega arith) c.loop-m.invariant
