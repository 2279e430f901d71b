use Rattle.std.proofs.Common.{◌+◌, sym, ◌∙◌, subst, arith}
use Rattle.rules.specs.Loaded.{loaded_term}
use Rattle.search.specs.Placings.{SoFar}
use Rattle.search.proofs.Columns.{so_far_unlike, so_far_next, so_far_all}
use Rattle.search.proofs.ground.Ground.one_value.Goals as goal
use Rattle.search.proofs.ground.Ground.one_value.Goals.{then-not-unlike+else-unwrap_or-number, else-not-unlike}

pub loop-row-preserved : goal.loop-row-preserved
loop-row-preserved g c =
    let rel = (g.R.Relation.meaning c.args.self.now.relation.now).rows in
    let rule = c.args.self.now.rule.now in
    elim c.if-not-unlike.branch [
      | then-not-unlike+else-unwrap_or-number w ↦ subst (SoFar rel rule c.args.i (loaded_term rule c.args.i c.args.j) (c.loop-row.row + 1)) (sym w.found-is) (so_far_next rel rule c.args.i c.args.j _ _ c.loop-row.found (sym w.unwrap_or.ensures ∙ w.if-unwrap_or-number.false) c.requires.j w.cell-number.ensures c.loop-row.invariant)
      | else-not-unlike w ↦ subst (SoFar rel rule c.args.i (loaded_term rule c.args.i c.args.j) (c.loop-row.row + 1)) (sym w.found-is) (so_far_unlike rel rule c.args.i (loaded_term rule c.args.i c.args.j) _ c.loop-row.found c.loop-row.invariant (c.unlike.ensures w.if-not-unlike.false))
    ]

pub returns : goal.returns
returns g c = λ _. so_far_all (g.R.Relation.meaning c.args.self.now.relation.now).rows c.args.self.now.rule.now c.args.i (loaded_term c.args.self.now.rule.now c.args.i c.args.j) _ c.loop-row.found (omega arith) c.loop-row.invariant
