use Rattle.std.proofs.Common.{◌+◌, get_or, sym}
use Rattle.sheets.specs.Reads.{slots, term_in}
use Rattle.sheets.specs.Slots.{slots_length}
use Rattle.sheets.proofs.reads.RuleWords.rows.Goals as goal

pub returns-clause-value : goal.returns-clause-value
returns-clause-value c =
    let r = c.args.self.now in
    sym (slots_length (slots (term_in r.words.now) 1 r.width) r.width (get_or r.words.now (r.at + 1) 0) (r.at + 2))
