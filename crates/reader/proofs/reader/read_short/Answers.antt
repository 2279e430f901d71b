use Rattle.std.proofs.Common.{rules}
use Rattle.reader.proofs.Beginnings.{begun}
use Rattle.reader.proofs.reader.read_short.Goals as goal

pub returns-clause-reads : goal.returns-clause-reads
returns-clause-reads c =
    let told = c.in_ok-take_lines.ensures.reads in
    let new = c.take_lines.new in
    (told.0, told.1, begun c.args.text.now told.0 new.rules new.targets new.names _ told.2 (search rules) (search rules) (search rules))
