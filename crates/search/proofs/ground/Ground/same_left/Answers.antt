use Rattle.std.proofs.Common.{◌≡◌, arith}
use Rattle.rules.specs.declared.term.Term.TheVariants.{Variable}
use Rattle.rules.specs.Rules.{at}
use Rattle.rules.specs.Loaded.{left_var}
use Rattle.search.specs.Placings.{filled}
use Rattle.search.proofs.Fronts.{counted_all}
use Rattle.search.proofs.ground.Ground.same_left.Goals as goal

pub returns-clause-yes : goal.returns-clause-yes
returns-clause-yes g c = λ _.
    let rel = (g.R.Relation.meaning c.args.self.now.relation.now).rows in
    let rule = c.args.self.now.rule.now in
    let plan = c.args.self.now.plan.now in
    counted_all 0 (left_var rule) rule.left_count _ (c.left-v-items.ensures.meant c.requires.groupable.left) (λ k v. at (filled rel plan c.args.a.now.rows) (Variable v) ≡ at (filled rel plan c.args.b.now.rows) (Variable v)) c.loop-v.v-index (omega arith) c.loop-v.invariant
