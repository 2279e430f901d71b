use Rattle.std.proofs.Common.{rules}
use Rattle.reader.proofs.desk.Desk.entry_words.Goals as goal

pub returns-then-not-known : goal.returns-then-not-known
returns-then-not-known c = record { same = search rules; at = search rules; is = search rules }
