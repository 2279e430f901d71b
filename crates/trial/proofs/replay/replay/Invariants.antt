use Rattle.std.proofs.Common.{map, take, vec_items}
use Rattle.law.proofs.Stands.{Replaying}
use Rattle.trial.specs.Seen.{seen}
use Rattle.trial.specs.Replays.{answer_of, asked}
use Rattle.trial.proofs.replay.replay.Given as goal

abbrev pub invariant-loop-request : goal.invariant-loop-request
invariant-loop-request g l = Replaying (g.B.Book.meaning l.book) (map (asked g.T.Book.meaning) (take l.request-index l.requests)) (map answer_of (vec_items l.replies)) (seen l.trial)
