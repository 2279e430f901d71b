use Rattle.std.proofs.Common.{rules}
use Rattle.summary.proofs.Steps.{counted, loaded_sized}
use Rattle.summary.proofs.beginning.count_lines.Goals as goal

pub map_or-requires : goal.map_or-requires
map_or-requires g c = search (rules, loaded_sized)

pub returns-clause-is : goal.returns-clause-is
returns-clause-is g c = counted (g.B.Book.meaning c.args.book.now) c.args.rule c.map_or.result c.load.result _ c.load.ensures c.map_or.ensures (λ l p. search rules)
