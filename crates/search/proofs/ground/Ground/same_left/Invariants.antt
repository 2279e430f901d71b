use Rattle.std.proofs.Common.{◌≡◌, ℕ, ◌<◌, get_or}
use Rattle.rules.specs.declared.term.Term.TheVariants.{Variable}
use Rattle.rules.specs.Rules.{at}
use Rattle.search.specs.Placings.{filled}
use Rattle.search.proofs.ground.Ground.same_left.Given as goal

abbrev pub invariant-loop-v : goal.invariant-loop-v
invariant-loop-v g l =
    let rel = (g.R.Relation.meaning l.self.relation.now).rows in
    (k : ℕ) → k < l.v-index → at (filled rel l.self.plan.now l.a.rows) (Variable (get_or l.v-items k 0)) ≡ at (filled rel l.self.plan.now l.b.rows) (Variable (get_or l.v-items k 0))
