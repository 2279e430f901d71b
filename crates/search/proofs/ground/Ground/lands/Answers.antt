use Rattle.std.proofs.Common.{◌≡◌, [], ap, ◌∙◌, get_or, subst, arith}
use Rattle.std.proofs.lemmas.List.{get_or-take}
use Rattle.rules.specs.Loaded.{loaded_term}
use Rattle.rules.specs.Rules.{at}
use Rattle.search.specs.Placings.{filled, place, tests_at}
use Rattle.search.proofs.Plans.{tested_lands}
use Rattle.search.proofs.ground.Ground.lands.Goals as goal

pub returns-clause-yes : goal.returns-clause-yes
returns-clause-yes g c = λ _.
    let rel = (g.R.Relation.meaning c.args.self.now.relation.now).rows in
    let p = g.P.Placement.places c.args.placing.now in
    let tests = tests_at c.args.self.now.plan.now c.args.depth in
    record {
      within = c.requires.within;
      wide = c.requires.fitting _ c.requires.within;
      cells = tested_lands (g.R.Relation.meaning c.args.self.now.relation.now).rows c.args.self.now.rule.now c.args.self.now.plan.now c.requires.plan.origins (g.P.Placement.places c.args.placing.now) c.args.depth (tests_at c.args.self.now.plan.now c.args.depth) (c.requires.plan.tests _ c.requires.depth) (λ u h. subst (λ x. at (filled rel c.args.self.now.plan.now p) (loaded_term c.args.self.now.rule.now c.args.depth x) ≡ get_or (get_or rel (place p c.args.depth) []) x 0) (ap (λ xs. get_or xs u 0) c.columns-column-items.ensures.front ∙ get_or-take tests.count tests.columns u 0 h) (c.loop-column.invariant u (omega (arith, c.columns-column-items.ensures.long))));
    }
