use Rattle.std.proofs.Common.{◌≡◌, ◌==◌, ◌+◌, not, map, ◌∷◌, length, ap, ◌∙◌, sym, rules, tests}
use Rattle.std.proofs.lemmas.Iterator.{YieldsList-from_slice}
use Rattle.std.proofs.lemmas.Iterator.Search.{position_from_yields_List}
use Rattle.text.specs.Words.{name_of, words_at}
use Rattle.text.proofs.Runs.{cut, no_word, first_word}
use Rattle.text.proofs.line_words.WordsIterator.next.Goals as goal

pub returns-in_err-spaces-clause-steps : goal.returns-in_err-spaces-clause-steps
returns-in_err-spaces-clause-steps c =
    let bs = c.self.inside.rest.now in
    let found = position_from_yields_List (λ b. not (b == 32)) _ _ c.position.result c.position.ensures.ran (YieldsList-from_slice bs cc) (λ x b q k. search (rules, tests)) in
    let none = no_word c.self.inside.place bs (sym found ∙ c.in_err-spaces.was) in search rules

first : (c : goal.After-self-3-1) → c.args.self.now ≡ record { place = c.self.inside.place + c.in_ok-spaces.spaces; length = c.length_before-length.result } ∷ map name_of (words_at (c.self.inside.place + c.in_ok-spaces.spaces + c.length_before-length.result) (cut (cut c.self.inside.rest.now c.in_ok-spaces.spaces) c.length_before-length.result))
first c =
    let bs = c.self.inside.rest.now in
    let found = position_from_yields_List (λ b. not (b == 32)) _ _ c.position.result c.position.ensures.ran (YieldsList-from_slice bs cc) (λ x b q k. search (rules, tests)) in
    sym c.self.view_is ∙ first_word c.self.inside.place bs c.in_ok-spaces.spaces c.length_before-length.result (sym found ∙ c.in_ok-spaces.was) c.length_before-length.ensures.is

pub returns-clause-steps : goal.returns-clause-steps
returns-clause-steps c = first c

pub returns-clause-goes : goal.returns-clause-goes
returns-clause-goes c =
    let shorter = ap length (first c) in
    search rules
