use Rattle.std.proofs.Common.{arith}
use Rattle.keys.proofs.Steps.{rule-here, rule-past}
use Rattle.keys.proofs.key_list.KeyList.key.Goals as goal

pub returns-then-rule-self : goal.returns-then-rule-self
returns-then-rule-self c = rule-past c.args.self.now.width c.args.self.now.bytes.now c.args.rule (omega arith)

pub returns : goal.returns
returns c = rule-here c.args.self.now.width c.args.self.now.bytes.now c.args.rule (omega arith)
