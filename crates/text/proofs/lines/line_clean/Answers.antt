use Rattle.std.proofs.Common.{take, drop, ap, ◌∙◌}
use Rattle.std.proofs.lemmas.Slice.{between_is}
use Rattle.text.specs.Lines.{clean}
use Rattle.text.proofs.lines.line_clean.Goals as goal

pub returns : goal.returns
returns c =
    let t = c.args.text.now in
    c.is_clean.ensures ∙ ap clean (c.part_of.ensures ∙ ap (λ k. take k (drop c.args.from t)) c.saturating_sub.ensures ∙ between_is t c.args.from c.args.end)
