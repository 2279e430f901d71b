use Rattle.std.proofs.Common.{◌≡◌, ◌++◌, drop, vec_items}
use Rattle.reader.specs.Lists.{words_in}
use Rattle.summary.specs.Summary.{names_text}
use Rattle.summary.proofs.telling.push_names.Given as goal

abbrev pub invariant-loop-i : goal.invariant-loop-i
invariant-loop-i l =
    let text = l.naming.text.now in
    let names = l.naming.names.now in
    vec_items l.out ++ names_text l.i (words_in text (drop l.i names)) ≡ vec_items l.initial.out ++ names_text 0 (words_in text names)
