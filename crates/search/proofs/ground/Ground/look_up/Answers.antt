use Rattle.search.proofs.Tabled.{walk_end}
use Rattle.search.proofs.ground.Ground.look_up.Goals as goal

pub returns : goal.returns
returns g c = walk_end _ _ _ _ _ _ _ c.loop-at-test.false c.requires.home c.loop-at.invariant
