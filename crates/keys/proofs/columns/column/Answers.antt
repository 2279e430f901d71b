use Rattle.std.proofs.Common.{sym, ◌∙◌, arith, rules, tests}
use Rattle.std.proofs.lemmas.Iterator.{YieldsList-from_range}
use Rattle.std.proofs.lemmas.Iterator.Consumers.{nth_from_yields_List, YieldsList-from_filter}
use Rattle.keys.specs.Keys.{has_bit}
use Rattle.keys.proofs.Steps.{same_option}
use Rattle.keys.proofs.columns.column.Goals as goal

pub returns : goal.returns
returns c =
    sym (same_option c.nth.result)
    ∙ nth_from_yields_List c.nth.result c.nth.new.self c.args.k c.nth.ensures.ran
    (YieldsList-from_filter _ (has_bit c.args.byte) (YieldsList-from_range 0 c.args.width c.args.width (cc) (omega arith)) c.filter.ensures.closure (λ x b q k. search (rules, tests)))
