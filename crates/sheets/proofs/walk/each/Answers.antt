use Rattle.std.proofs.Common.{◌≡◌, ℕ, ◌+◌, ◌-◌, ◌<◌, ◌≤◌, true, false, length, get_or, Err, sym, ap, ◌∙◌, arith}
use Rattle.std.proofs.lemmas.Grind.{common_steps}
use Rattle.std.proofs.lemmas.Result.{err_from_is_err_and}
use Rattle.sheets.specs.Walk.{Out}
use Rattle.sheets.proofs.Steps.{each_next, each_short, each_wrong}
use Rattle.sheets.proofs.walk.each.Goals as goal

pub returns-in_err-w-clause-value : goal.returns-in_err-w-clause-value
returns-in_err-w-clause-value g c = λ test h.
    let n = c.args.at + c.args.count in
    let here = c.loop-place.place in
    let p = err_from_is_err_and c.from_residual.result c.from_residual.ensures.1 in
    let short : length c.args.words.now ≤ here = grind (arith, common_steps) in
    let fault : p.0.place ≡ here = grind (arith, common_steps) in
    let e = each_short test c.args.words.now (n - here) (n - (here + 1)) here (omega arith) short in
    let told : ◌≡◌ {A = Out ℕ} (Err p.0) (Err (record { place = here })) = ap (λ place. Err (record { place = place })) fault in
    rw p.1 (told ∙ (sym e ∙ c.loop-place.invariant.1 test h))

pub returns-then-not-fits-clause-value : goal.returns-then-not-fits-clause-value
returns-then-not-fits-clause-value g c = λ test h.
    let n = c.args.at + c.args.count in
    let here = c.loop-place.place in
    let long : here < length c.args.words.now = grind (arith, common_steps) in
    let same : c.in_ok-w.w ≡ get_or c.args.words.now here 0 = grind (arith, common_steps) in
    let wrong = ap test (sym same) ∙ sym (h c.in_ok-w.w false c.if-not-fits.ensures) in
    let e = each_wrong test c.args.words.now (n - here) (n - (here + 1)) here (omega arith) long wrong in
    sym e ∙ c.loop-place.invariant.1 test h

pub loop-place-preserved : goal.loop-place-preserved
loop-place-preserved g c =
    let n = c.args.at + c.args.count in
    let here = c.loop-place.place in
    let long : here < length c.args.words.now = grind (arith, common_steps) in
    let same : c.in_ok-w.w ≡ get_or c.args.words.now here 0 = grind (arith, common_steps) in (
      omega arith,
      λ test h.
          let right = ap test (sym same) ∙ sym (h c.in_ok-w.w true c.if-not-fits.ensures) in
          let e = each_next test c.args.words.now (n - here) (n - (here + 1)) here (omega arith) long right in
          sym e ∙ c.loop-place.invariant.1 test h,
    )
