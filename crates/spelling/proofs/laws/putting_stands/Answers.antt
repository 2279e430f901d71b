use Rattle.spelling.proofs.Fronts.{first-put_down}
use Rattle.spelling.proofs.Theorems.{whole-put_down}
use Rattle.spelling.proofs.laws.putting_stands.Goals as goal

pub returns : goal.returns
returns c = record { whole = whole-put_down; first = first-put_down }
