use Rattle.law.proofs.Due.{answers-due}
use Rattle.law.proofs.laws.answers_due.Goals as goal

pub returns : goal.returns
returns c = answers-due
