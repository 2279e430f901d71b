use Rattle.std.proofs.Common.{rules, Some, sym, subst, arith}
use Rattle.std.proofs.lemmas.List.{set-get_or}
use Rattle.rules.specs.Loaded.{Filled}
use Rattle.rules.proofs.Fills.{got_more}
use Rattle.rules.proofs.load.fill.Goals as goal

pub loop-k-preserved : goal.loop-k-preserved
loop-k-preserved g c = got_more (λ i y. goal.F-post g c.args.ask i (Some y)) c.loop-k.places c.loop-k.k c.in-Some.answer (omega arith) (search rules) c.loop-k.invariant

pub returns-in-None : goal.returns-in-None
returns-in-None g c =
    subst (λ places. Filled (goal.F-post g c.args.ask) places c.loop-k.k) (sym (set-get_or c.loop-k.places c.loop-k.k c.index-places-k.result))
    (record { few = omega arith; each = c.loop-k.invariant; all = λ _. search rules })

pub returns : goal.returns
returns g c = record { few = omega arith; each = λ k h. c.loop-k.invariant k (omega arith); all = λ h. absurd (omega arith) }
