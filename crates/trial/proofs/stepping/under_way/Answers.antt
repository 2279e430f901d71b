use Rattle.std.proofs.Common.{sym, ◌∙◌}
use Rattle.trial.proofs.stepping.under_way.Goals as goal

pub returns-then-held-width : goal.returns-then-held-width
returns-then-held-width g c = (c.in_ok-held.held, c.in_ok-held.ensures.ok_part, λ e. c.if-held-width.true (e ∙ sym c.width.ensures))
