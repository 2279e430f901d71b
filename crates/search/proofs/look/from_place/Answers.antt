use Rattle.search.proofs.Breaks.{break_split}
use Rattle.search.proofs.look.from_place.Goals as goal

pub returns : goal.returns
returns g c =
    let spot = c.spot_of.ensures in (
      break_split (g.R.Relation.meaning c.args.relation.now).rows c.args.look.now.rule c.requires.tried.ready.equality c.spot_of.result c.in_ok-split.split.places.rows _ _ _ spot.pair spot.one spot.other spot.here spot.rest c.in_ok-split.ensures,
      spot.rule,
    )
