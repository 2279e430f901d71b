use Rattle.std.proofs.Common.{◌≡◌, ◌+◌, length, get_or, sym, subst, arith, length-set}
use Rattle.search.specs.Placings.{FirstAt, Leaves}
use Rattle.rules.specs.Loaded.{no_row, no_term}
use Rattle.std.proofs.lemmas.List.{get_or-take, length-take}
use Rattle.search.proofs.Plans.{leaves_own, leaves_test}
use Rattle.search.proofs.plan.tests_of.Goals as goal
use Rattle.search.proofs.plan.tests_of.Goals.{then-not-is_own, else-not-is_own}

pub loop-column-preserved : goal.loop-column-preserved
loop-column-preserved c =
    let rule = c.args.rule.now in
    let plan = c.args.plan.now in
    elim c.if-not-is_own.branch [
      | then-not-is_own w ↦ subst (λ x. (length x.columns ≡ 8) × Leaves rule plan c.args.row x (c.loop-column.column + 1)) (sym w.tests-is) (simp length-set c.loop-column.invariant.0, leaves_test rule plan c.args.row c.loop-column.tests c.loop-column.column c.loop-column.invariant.0 (omega (arith, c.requires.sound.width)) c.loop-column.invariant.1)
      | else-not-is_own w ↦ subst (λ x. (length x.columns ≡ 8) × Leaves rule plan c.args.row x (c.loop-column.column + 1)) (sym w.tests-is) (c.loop-column.invariant.0, leaves_own rule plan c.args.row c.loop-column.tests c.loop-column.column c.loop-column.invariant.1 (subst (λ t. FirstAt plan t c.args.row c.loop-column.column) (get_or-take rule.width (get_or rule.rows c.args.row no_row).terms c.loop-column.column no_term (omega (arith, length-take rule.width (get_or rule.rows c.args.row no_row).terms))) (c.is_own.ensures w.if-not-is_own.false)))
    ]
