use Rattle.std.proofs.Common.{arith, rules}
use Rattle.sheets.proofs.Founds.{few, found, whole}
use Rattle.sheets.proofs.sheet.Sheet.rule.Goals as goal

pub offset_bounds-self-rule : goal.offset_bounds-self-rule
offset_bounds-self-rule c =
    let s = c.args.self.now in
    let h = few s.words.now s.opening.width s.opening.count s.opening.starts s.opened in
    search rules

pub bounds-self-rule : goal.bounds-self-rule
bounds-self-rule c =
    let s = c.args.self.now in
    let h = few s.words.now s.opening.width s.opening.count s.opening.starts s.opened in
    omega arith

pub invariant_of-result : goal.invariant_of-result
invariant_of-result c =
    let s = c.args.self.now in
    record { whole = whole s.words.now s.opening.width s.opening.count s.opening.starts s.opened c.args.rule c.if-rule-self.false }

pub returns : goal.returns
returns c =
    let s = c.args.self.now in
    found s.words.now s.opening.width s.opening.count s.opening.starts s.opened c.args.rule c.if-rule-self.false
