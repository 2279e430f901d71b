use Rattle.std.proofs.Common.{◌≡◌, suc, map, ◌∙◌, refl, ap, sym, rules}
use Rattle.std.proofs.lemmas.Iterator.Consumers.{YieldsList-from_first, nth_from_yields_List}
use Rattle.std.proofs.lemmas.Option.{slice_get-map}
use Rattle.text.specs.Lines.{lines_at, lines_from}
use Rattle.summary.specs.Summary.{line_numbered}
use Rattle.summary.proofs.quoting.line_numbered.Goals as goal

pub returns : goal.returns
returns c =
    let t = c.args.text.now in
    let n = c.in_ok-skip.skip in
    let number : c.args.number ≡ suc n = search rules in
    nth_from_yields_List c.nth.result c.nth.new.self n c.nth.ensures.ran (YieldsList-from_first (λ l. l.now) (λ l. map (λ line. line.bytes) (lines_from l.text.now l.from)) (map (λ line. line.bytes) (lines_from t 0)) refl)
    ∙ (slice_get-map (λ line. line.bytes) (lines_from t 0) n ∙ sym (ap (line_numbered (lines_at 0 t)) number))
