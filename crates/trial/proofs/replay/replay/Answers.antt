use Rattle.std.proofs.Common.{List, map, vec_items, sym, subst}
use Rattle.std.proofs.lemmas.List.{take_all}
use Rattle.law.proofs.Stands.{Replaying, replay_none}
use Rattle.trial.specs.declared.request.Request.{Request}
use Rattle.trial.specs.Seen.{seen}
use Rattle.trial.specs.Replays.{answer_of, asked}
use Rattle.trial.proofs.Replaying.{replay_on, replay_promised}
use Rattle.trial.proofs.replay.replay.Goals as goal

pub loop-request-init : goal.loop-request-init
loop-request-init g c =
    let b = g.B.Book.meaning c.args.book.now in
    rw (c.new-replies.ensures.items, c.blank-trial.ensures) (replay_none b)

pub loop-request-preserved : goal.loop-request-preserved
loop-request-preserved g c =
    replay_on (g.B.Book.meaning c.args.book.now) (g.B.Book.well c.args.book.now) g.T.Book.meaning g.T.Book.well c.args.requests.now c.loop-request.request-index
    c.request-item.result c.loop-request-test.true (sym c.request-item.is) (vec_items c.loop-request.replies) (vec_items c.push.new.self) c.call-reply.result
    c.in_ok-push.ensures.items (seen c.loop-request.trial) (seen c.call-reply.new.trial) c.loop-request.invariant c.call-reply.ensures

pub returns : goal.returns
returns g c =
    let b = g.B.Book.meaning c.args.book.now in
    let requests = c.args.requests.now in
    let meaning = g.T.Book.meaning in
    let answers = map answer_of (vec_items c.loop-request.replies) in
    let x = seen c.loop-request.trial in
    let P : List (Request g.row.T.Denot) → Type 0 = λ qs. Replaying b (map (asked meaning) qs) answers x in
    replay_promised b (g.B.Book.well c.args.book.now) (map (asked meaning) requests) answers x
    (subst P (take_all c.loop-request.request-index requests c.loop-request-test.false) c.loop-request.invariant) c.args.finish c.conclude-outcome.result c.conclude-outcome.ensures
