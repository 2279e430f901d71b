use Rattle.std.proofs.Common.{rules, arith}
use Rattle.rules.proofs.Loads.{loaded}
use Rattle.rules.proofs.load.load.Goals as goal

pub returns : goal.returns
returns g c = loaded (g.B.Book.meaning c.args.book.now) (g.B.Book.well c.args.book.now) _ _ (search rules) (search rules) c.width.ensures c.load_rows.ensures (omega arith) (omega arith) (λ k o a. search rules) c.fill-left_count.ensures (λ k o a. search rules) c.fill-pair_count.ensures
