use Rattle.std.proofs.Common.{sym}
use Rattle.keys.specs.Keys.{key_rules}
use Rattle.keys.proofs.Steps.{term_here, term_past, row_past}
use Rattle.keys.proofs.key_list.KeyListBook.term.Goals as goal
use Rattle.keys.proofs.key_list.KeyListBook.term.Goals.{then-row-gt0-via-then-row-gt0, then-row-gt0-via-else-row-gt0+then-column-self}

pub returns-then-row-gt0 : goal.returns-then-row-gt0
returns-then-row-gt0 c =
    let s = c.args.self.now in
    let key = c.in_ok-key.field-0 in
    let rules = key_rules s.width s.bytes.now in
    let found = c.in_ok-key.ensures in
    elim c.then-row-gt0.branch [
      | then-row-gt0-via-then-row-gt0 w ↦ sym (row_past rules c.args.rule s.width key.left key.right found c.args.row c.args.column w.if-row-gt0.true)
      | then-row-gt0-via-else-row-gt0+then-column-self w ↦ sym (term_past rules c.args.rule s.width key.left key.right found c.args.row c.args.column w.if-column-self.true)
    ]

pub returns : goal.returns
returns c =
    let s = c.args.self.now in
    let key = c.in_ok-key.field-0 in
    sym (term_here (key_rules s.width s.bytes.now) c.args.rule s.width key.left key.right c.in_ok-key.ensures c.args.row c.args.column c.if-row-gt0.false c.if-column-self.false)
