use Rattle.std.proofs.Common.{◌<◌, length, get_or, ap, ◌∙◌, subst, sym, arith}
use Rattle.std.proofs.lemmas.List.{get_or-take, length-take-le}
use Rattle.rules.specs.declared.loaded.TermRow.{TermRow}
use Rattle.rules.specs.Books.{Small}
use Rattle.rules.specs.Loaded.{no_row, no_term}
use Rattle.rules.proofs.Copies.{term_small}
use Rattle.rules.proofs.doubling.doubled_rows.Goals as goal

pub copied_row-requires-clause-small : goal.copied_row-requires-clause-small
copied_row-requires-clause-small c = λ j h.
    let rule = c.args.rule.now in
    let long = length-take-le rule.row_count rule.rows (omega (arith, c.requires.sized.rows)) in
    let here : c.loop-k.k < rule.row_count = omega (arith, ap (length {A = TermRow}) c.rows-row-items.ensures) in
    subst (λ (x : TermRow). Small (get_or x.terms j no_term))
    (sym (ap (λ xs. get_or xs c.loop-k.k no_row) c.rows-row-items.ensures ∙ get_or-take rule.row_count rule.rows c.loop-k.k no_row here))
    (term_small rule c.requires.of c.loop-k.k j here h)
