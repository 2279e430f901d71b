use Rattle.search.proofs.Sounds.{sound_rule}
use Rattle.search.proofs.look.begin.Goals as goal

pub begin_walk-requires-clause-sound : goal.begin_walk-requires-clause-sound
begin_walk-requires-clause-sound g c = sound_rule c.in_ok-rule.rule c.in_ok-rule.ensures.of_book
