use Rattle.std.proofs.Common.{◌+◌, get_or, sym, ap, arith}
use Rattle.sheets.specs.Reads.{left_in, left_place}
use Rattle.sheets.specs.Slots.{slots_nth, slots_past}
use Rattle.sheets.proofs.reads.RuleWords.left.Goals as goal

pub returns-then-k-self : goal.returns-then-k-self
returns-then-k-self c =
    let place = left_place c.args.self.now.words.now c.args.self.now.width c.args.self.now.at in
    let e = ap (λ p. get_or c.args.self.now.words.now p 0) c.left_place-place.ensures in
    sym (slots_past (left_in c.args.self.now.words.now) 1 (get_or c.args.self.now.words.now place 0) (place + 1) c.args.k (omega arith))

pub returns : goal.returns
returns c =
    let place = left_place c.args.self.now.words.now c.args.self.now.width c.args.self.now.at in
    let e = ap (λ p. get_or c.args.self.now.words.now p 0) c.left_place-place.ensures in
    sym (slots_nth (left_in c.args.self.now.words.now) 1 (get_or c.args.self.now.words.now place 0) (place + 1) c.args.k (c.left_place-place.result + 1 + c.args.k) (omega arith) (omega arith))
