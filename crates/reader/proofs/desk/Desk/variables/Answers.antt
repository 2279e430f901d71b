use Rattle.std.proofs.Common.{◌∙◌, ap, sym, refl, rules, tests}
use Rattle.std.specs.List.{list_all}
use Rattle.std.proofs.lemmas.Iterator.Consumers.{YieldsList-from_first}
use Rattle.std.proofs.lemmas.Iterator.Search.{all_from_yields_List}
use Rattle.std.proofs.lemmas.List.Folds.{list_all-map}
use Rattle.text.specs.Words.{Word, part, word_in, is_variable}
use Rattle.reader.proofs.desk.Desk.variables.Goals as goal

pub returns : goal.returns
returns c =
    let t = c.args.self.now.text.now in
    all_from_yields_List (λ n. is_variable (part t n)) _ _ _ c.all.ensures.ran (YieldsList-from_first (λ n. n) (λ ns. ns) c.words.result refl) (λ x b q k. search (rules, tests))
    ∙ sym (list_all-map (λ (w : Word). is_variable w.bytes) (word_in t) c.words.result) ∙ ap (list_all (λ w. is_variable w.bytes)) c.words.ensures.words
