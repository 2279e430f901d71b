-- The words for how an advance stops and for a verdict.
use Rattle.std.specs.Prelude.{ℕ, List, codes}
use Rattle.law.specs.declared.outcome.Stop.{Stop}
use Rattle.law.specs.declared.outcome.Stop.TheVariants.{Spent, Rest, Clash}
use Rattle.law.specs.declared.outcome.Verdict.{Verdict}
use Rattle.law.specs.declared.outcome.Verdict.TheVariants.{Void, Follows, Fails}

abbrev pub stop_word : Stop → List ℕ
stop_word Spent = codes "spent"
stop_word Rest = codes "rest"
stop_word Clash = codes "clash"

abbrev pub verdict_word : Verdict → List ℕ
verdict_word Void = codes "void"
verdict_word Follows = codes "follows"
verdict_word Fails = codes "fails"
