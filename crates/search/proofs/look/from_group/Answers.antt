use Rattle.std.proofs.Common.{◌+◌, rules}
use Rattle.search.specs.Progress.{GroupTried}
use Rattle.search.proofs.Begun.{group_room}
use Rattle.search.proofs.Breaks.{break_parting}
use Rattle.search.proofs.Groups.{turn_first}
use Rattle.search.proofs.Orders.{parted_order}
use Rattle.search.proofs.look.from_group.Goals as goal

pub try_group-requires : goal.try_group-requires
try_group-requires g c = record {
  ready = c.requires.tried.ready;
  picks = c.requires.picks;
  m = c.requires.m;
  fine = c.requires.tried.turn.0.fine;
  room = group_room (g.R.Relation.meaning c.args.relation.now).rows c.args.choices.now c.args.scratch.now.seen c.args.look.now c.args.m c.requires.m c.requires.picks c.requires.tried;
}

pub returns-in_err-parting : goal.returns-in_err-parting
returns-in_err-parting g c =
    let rel = (g.R.Relation.meaning c.args.relation.now).rows in
    let look = c.args.look.now in
    let d = c.args.choices.now in
    let tried : GroupTried rel d c.try_group.new.scratch.seen look (c.args.m + 1) = record {
      ready = c.requires.tried.ready;
      before = c.requires.tried.before;
      empty = c.requires.tried.empty;
      turn = turn_first rel look.rule look.plan d c.requires.tried.before c.args.scratch.now.seen c.try_group.new.scratch.seen c.args.m c.requires.tried.turn c.in_err-parting.ensures;
    } in
    search rules

pub returns : goal.returns
returns g c =
    let rel = (g.R.Relation.meaning c.args.relation.now).rows in
    let look = c.args.look.now in
    let ready = c.requires.tried.ready in
    let spot = c.joint_spot.ensures in (
      break_parting rel look.own ready.functional ready.of c.joint_spot.result c.put_back.result.rows c.put_back-2.result.rows _ _ _ spot.pair spot.one spot.other spot.here spot.there spot.rest
          (parted_order rel look.own look.rule look.places ready.same ready.order _ _ _ _ _ _ _ c.put_back.ensures c.put_back-2.ensures c.in_ok-parting.ensures),
      spot.rule,
    )
