use Rattle.std.proofs.Common.{sym, ◌∙◌, subst, arith}
use Rattle.std.proofs.lemmas.List.{get_or_append_left, length-take-le}
use Rattle.rules.specs.declared.term.Term.{Term}
use Rattle.rules.specs.Books.{Small}
use Rattle.rules.specs.Loaded.{no_term}
use Rattle.rules.proofs.Copies.{other_small}
use Rattle.rules.proofs.doubling.doubled_pairs.Goals as goal

pub copied-pair-requires : goal.copied-pair-requires
copied-pair-requires c =
    let long = length-take-le c.args.rule.now.pair_count c.args.rule.now.pairs (omega arith) in
    subst (λ (p : Term × Term). Small p.1) (sym (c.loop-pair.invariant.after c.loop-pair.pair-index (omega arith) (omega arith))) (other_small c.args.rule.now c.requires.of c.loop-pair.pair-index (omega arith))

pub returns : goal.returns
returns c = λ k h.
    let long = length-take-le c.args.rule.now.pair_count c.args.rule.now.pairs (omega arith) in
    get_or_append_left c.loop-pair.pair-items _ (no_term, no_term) k (omega arith) ∙ c.loop-pair.invariant.before k (omega arith)
