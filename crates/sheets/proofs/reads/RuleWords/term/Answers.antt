use Rattle.std.proofs.Common.{◌+◌, ◌*◌, get_or, sym, arith}
use Rattle.sheets.specs.Reads.{slots, term_in}
use Rattle.sheets.specs.Slots.{slots_nth, slots_past}
use Rattle.sheets.proofs.reads.RuleWords.term.Goals as goal
use Rattle.sheets.proofs.reads.RuleWords.term.Goals.{then-row-rows-via-then-row-rows, then-row-rows-via-else-row-rows+then-column-self}

pub returns-then-row-rows : goal.returns-then-row-rows
returns-then-row-rows c =
    let r = c.args.self.now in
    let rows = get_or r.words.now (r.at + 1) 0 in
    let place = r.at + 2 + c.args.row * r.width in
    elim c.then-row-rows.branch [
      | then-row-rows-via-then-row-rows w ↦ rw (slots_past (slots (term_in r.words.now) 1 r.width) r.width rows (r.at + 2) c.args.row (omega (arith, w.if-row-rows.true)))
      | then-row-rows-via-else-row-rows+then-column-self w ↦
          rw (slots_nth (slots (term_in r.words.now) 1 r.width) r.width rows (r.at + 2) c.args.row place (omega (arith, w.if-row-rows.false)) (omega arith))
          (sym (slots_past (term_in r.words.now) 1 r.width place c.args.column (omega (arith, w.if-column-self.true))))
    ]

pub returns : goal.returns
returns c =
    let r = c.args.self.now in
    let place = r.at + 2 + c.args.row * r.width in
    rw (slots_nth (slots (term_in r.words.now) 1 r.width) r.width (get_or r.words.now (r.at + 1) 0) (r.at + 2) c.args.row place (omega arith) (omega arith))
    (rw c.term_of.ensures
    (sym (slots_nth (term_in r.words.now) 1 r.width place c.args.column (place + c.args.column) (omega arith) (omega arith))))
