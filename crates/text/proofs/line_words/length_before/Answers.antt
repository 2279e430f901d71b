use Rattle.std.proofs.Common.{◌==◌, ◌∙◌, rules, tests}
use Rattle.std.proofs.lemmas.Iterator.{YieldsList-from_slice}
use Rattle.std.proofs.lemmas.Iterator.Search.{position_from_yields_List}
use Rattle.text.proofs.Found.{place_or_end}
use Rattle.text.proofs.line_words.length_before.Goals as goal

pub returns-clause-is : goal.returns-clause-is
returns-clause-is c =
    let found = position_from_yields_List (λ b. b == c.args.stop) _ _ c.position.result c.position.ensures.ran (YieldsList-from_slice c.args.bytes.now cc) (λ x b q k. search (rules, tests)) in
    c.unwrap_or.ensures ∙ place_or_end _ _ _ found
