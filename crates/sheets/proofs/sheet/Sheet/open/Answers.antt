use Rattle.sheets.proofs.Founds.{opened_by}
use Rattle.sheets.proofs.Theorems.{opens}
use Rattle.sheets.proofs.sheet.Sheet.open.Goals as goal

pub invariant_of-result : goal.invariant_of-result
invariant_of-result c = record { opened = opened_by c.args.words.now _ c.table.result c.unwrap_or-opening.result c.table.ensures c.unwrap_or-opening.ensures }

pub returns-clause-opens : goal.returns-clause-opens
returns-clause-opens c = opens c.args.words.now
