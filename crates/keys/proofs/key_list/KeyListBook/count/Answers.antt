use Rattle.std.proofs.Common.{sym}
use Rattle.keys.proofs.Steps.{rules_length}
use Rattle.keys.proofs.key_list.KeyListBook.count.Goals as goal

pub returns : goal.returns
returns c = sym (rules_length c.args.self.now.width c.args.self.now.bytes.now)
