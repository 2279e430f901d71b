use Rattle.std.proofs.Common.{◌≡◌, ◌-◌, sym, ap, ◌∙◌, arith}
use Rattle.text.specs.Filled.{items}
use Rattle.text.specs.Words.{part, number_in}
use Rattle.reader.proofs.Numbered.{bytes_words_in}
use Rattle.reader.proofs.put.find.Goals as goal

pub returns-clause-is : goal.returns-clause-is
returns-clause-is c =
    let l = c.args.list.now in
    let t = c.args.text.now in
    let z : l.used - 0 ≡ l.used = omega arith in
    let is = rw z at c.number_in.ensures.is in
    is ∙ ap (λ xs. number_in xs (part t c.args.w)) (sym (bytes_words_in t (items l)))
