use Rattle.std.proofs.Common.{rules}
use Rattle.reader.proofs.desk.Desk.put_count.Goals as goal

pub returns : goal.returns
returns c = record { same = search rules; at = search rules; is = search rules }
