use Rattle.std.proofs.Common.{string_bytes, ap, ◌∙◌}
use Rattle.listing.proofs.Steps.{appended, step, unwritten, whole}
use Rattle.listing.proofs.listing.push_each.Goals as goal
use Rattle.listing.proofs.listing.push_each.Goals.{in-Some+in_ok-write, in_default}

pub loop-k-preserved : goal.loop-k-preserved
loop-k-preserved g c = (
  c.loop-k.invariant.0,
  λ text xs shows asks.
      step text xs c.loop-k.k c.ask.result _ _ _ (asks c.loop-k.k c.ask.result c.ask.ensures) (c.loop-k.invariant.1 text xs shows asks)
      (elim c.match-ask.branch [
        | in-Some+in_ok-write w ↦ ap string_bytes w.out-is ∙ appended text c.ask.result w.in-Some.item _ _ _ w.in-Some.is (shows w.in-Some.item) w.in_ok-write.ensures.bytes
        | in_default w ↦ ap string_bytes w.out-is ∙ unwritten text c.ask.result _ w.in_default.is
      ]),
)

pub returns : goal.returns
returns g c = λ text xs shows asks few.
    whole text xs c.loop-k.k c.args.most _ _ c.loop-k-test.false few (c.loop-k.invariant.1 text xs shows asks)
