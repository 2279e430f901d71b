use Rattle.worked.proofs.Worked.{works}
use Rattle.worked.proofs.every_case_works.Goals as goal

pub returns : goal.returns
returns c = works
