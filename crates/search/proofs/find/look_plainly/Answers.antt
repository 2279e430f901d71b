use Rattle.std.proofs.Common.{Some, None, arith}
use Rattle.search.proofs.Begun.{all_walked}
use Rattle.search.proofs.find.look_plainly.Goals as goal

pub returns-in-Some-from_place : goal.returns-in-Some-from_place
returns-in-Some-from_place g c =
    c.in-Some.ensures.0 (Some c.in-Some-from_place.spot) c.in-Some-from_place.ensures

pub returns-after-loop-m : goal.returns-after-loop-m
returns-after-loop-m g c = c.in-Some.ensures.0 None (all_walked (g.R.Relation.meaning c.args.relation.now).rows c.choices_of-choices.result c.in-Some.look c.loop-m.m c.choices_of-choices.ensures (omega (arith, c.count-count.ensures)) c.loop-m.invariant)
