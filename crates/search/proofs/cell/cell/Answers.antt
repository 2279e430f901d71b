use Rattle.std.proofs.Common.{unwrap_or, ap, ◌∙◌}
use Rattle.search.proofs.Entries.{entry_default}
use Rattle.search.proofs.cell.cell.Goals as goal

pub returns : goal.returns
returns g c = c.unwrap_or.ensures ∙ ap (λ o. unwrap_or o 0) c.entry.ensures ∙ entry_default (g.R.Relation.meaning c.args.relation.now).rows c.args.row c.args.column
