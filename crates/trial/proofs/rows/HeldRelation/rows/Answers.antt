use Rattle.std.proofs.Common.{sym}
use Rattle.trial.proofs.Currents.{rows_long}
use Rattle.trial.proofs.rows.HeldRelation.rows.Goals as goal

pub returns : goal.returns
returns c = sym (rows_long c.args.self.now)
