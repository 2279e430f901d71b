use Rattle.sheets.proofs.Theorems.{written-passes, passing_is_written, failing_is_first}
use Rattle.sheets.proofs.laws.layout_stands.Goals as goal

pub returns : goal.returns
returns c = record { written = written-passes; passing = passing_is_written; failing = failing_is_first }
