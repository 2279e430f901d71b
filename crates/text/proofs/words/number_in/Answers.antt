use Rattle.std.proofs.Common.{◌∙◌, sym, rules, tests}
use Rattle.std.proofs.lemmas.Iterator.{YieldsList-from_slice}
use Rattle.std.proofs.lemmas.Iterator.Search.{position_from_yields_List}
use Rattle.text.specs.Words.{part, same_word, differs}
use Rattle.text.proofs.Found.{place_or_end, prefix_len-map}
use Rattle.text.proofs.words.number_in.Goals as goal

pub returns-clause-is : goal.returns-clause-is
returns-clause-is c =
    let t = c.args.text.now in
    let ns = c.args.names.now in
    let key = part t c.args.word in
    let found = position_from_yields_List (λ n. same_word (part t n) key) _ _ c.position.result c.position.ensures.ran (YieldsList-from_slice ns cc) (λ x b q k. search (rules, tests)) in
    c.unwrap_or.ensures ∙ place_or_end _ _ _ found ∙ sym (prefix_len-map (differs key) (part t) ns)
