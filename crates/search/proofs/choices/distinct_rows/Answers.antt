use Rattle.std.proofs.Common.{◌≡◌, ◌+◌, length, set, sym, subst, arith, length-set}
use Rattle.search.specs.Placings.{Distinct}
use Rattle.search.proofs.Picked.{distinct_skip, distinct_new, same_front}
use Rattle.search.proofs.choices.distinct_rows.Goals as goal
use Rattle.search.proofs.choices.distinct_rows.Goals.{then-not-is_picked, else-not-is_picked}

pub loop-row-preserved : goal.loop-row-preserved
loop-row-preserved g c =
    let rel = (g.R.Relation.meaning c.args.relation.now).rows in
    let rows = c.loop-row.rows in
    let count = c.loop-row.count in
    let row = c.loop-row.row in
    elim c.if-not-is_picked.branch [
      | then-not-is_picked w ↦
          subst (λ xs. (length xs ≡ 8) × Distinct rel xs c.if-not-is_picked.count (row + 1)) (sym w.rows-is)
          (subst (λ n. (length (set rows count row) ≡ 8) × Distinct rel (set rows count row) n (row + 1)) (sym w.count-is) (simp length-set c.loop-row.invariant.0, distinct_new rel rows count row c.loop-row.invariant.0 (omega arith) (omega arith) c.loop-row.invariant.1))
      | else-not-is_picked w ↦
          subst (λ xs. (length xs ≡ 8) × Distinct rel xs c.if-not-is_picked.count (row + 1)) (sym w.rows-is)
          (subst (λ n. (length rows ≡ 8) × Distinct rel rows n (row + 1)) (sym w.count-is) (c.loop-row.invariant.0, distinct_skip rel rows count row (same_front rel rows count row (omega (arith, c.loop-row.invariant.0)) (c.is_picked.ensures w.if-not-is_picked.false)) c.loop-row.invariant.1))
    ]
