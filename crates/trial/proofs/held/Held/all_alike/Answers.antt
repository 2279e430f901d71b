use Rattle.std.proofs.Common.{rules, tests}
use Rattle.std.proofs.lemmas.Iterator.{cases_from_all, YieldsList-from_slice}
use Rattle.rules.specs.Loaded.{meant}
use Rattle.trial.specs.Views.{shows_of}
use Rattle.trial.proofs.Judges.{Alike, Apart, few_pairs, reached}
use Rattle.trial.proofs.held.Held.all_alike.Goals as goal

pub returns : goal.returns
returns c =
    let h = c.args.self.now in
    let s = shows_of h in
    let pairs = (meant h.target).pairs in
    let is = c.pairs-pairs.ensures.meant (few_pairs h) in
    reached s pairs c.all.result
    (cases_from_all _ _ _ (Alike s) (Apart s) c.all.ensures.ran (YieldsList-from_slice pairs cc) (λ x q k. search (rules, tests)) (λ x q k. search (rules, tests)))
