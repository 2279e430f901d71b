use Rattle.std.proofs.Common.{◌≡◌, ◌+◌, ◌-◌, ◌<◌, length, sym, ap, ◌∙◌, add-one, arith, length-set}
use Rattle.std.proofs.lemmas.Result.{err_from_is_err_and}
use Rattle.sheets.specs.Facts.{start_of}
use Rattle.sheets.specs.Reads.{end_of}
use Rattle.sheets.specs.Wholes.{whole_from}
use Rattle.sheets.proofs.Tables.{start-more, rules_next, rules_wrong, starts_more}
use Rattle.sheets.proofs.table.starts.Goals as goal

pub returns-in_err-at : goal.returns-in_err-at
returns-in_err-at c =
    let p = err_from_is_err_and c.from_residual.result c.from_residual.ensures.1 in
    let h = c.in_err-at.ensures.value in
    let d = rules_wrong c.args.words.now c.args.width (c.args.count - c.loop-start.start-index) (c.args.count - (c.loop-start.start-index + 1)) c.loop-start.at _ (omega arith) h in
    rw (p.1, p.2) (sym c.loop-start.invariant.2 ∙ d)

pub loop-start-preserved : goal.loop-start-preserved
loop-start-preserved c =
    let words = c.args.words.now in
    let width = c.args.width in
    let i = c.loop-start.start-index in
    let at = c.loop-start.at in
    let h = c.in_ok-at.ensures.value in
    let e = (whole_from words width at c.in_ok-at.at (omega arith) (sym h)).0 in
    let long : i < length c.loop-start.start-items = omega arith in
    let next : c.in_ok-at.at ≡ start_of words width (i + 1) 2 = e ∙ (ap (end_of words width) c.loop-start.invariant.0 ∙ (sym (start-more words width i 2) ∙ ap (λ k. start_of words width k 2) (sym (add-one i)))) in (
      next,
      omega (arith, c.in_ok-at.ensures.inside),
      sym (rules_next words width (c.args.count - i) (c.args.count - (i + 1)) at c.in_ok-at.at (omega arith) h) ∙ c.loop-start.invariant.2,
      starts_more words width c.loop-start.start-items i at long c.loop-start.invariant.0 c.loop-start.invariant.3,
      length-set c.loop-start.start-items i at ∙ c.loop-start.invariant.4,
    )
