use Rattle.law.proofs.Lawful.{more_rules}
use Rattle.law.proofs.laws.more_rules_still_a_run.Goals as goal

pub returns : goal.returns
returns c = more_rules
