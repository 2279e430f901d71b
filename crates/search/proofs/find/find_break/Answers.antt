use Rattle.std.proofs.Common.{◌%◌, inl, inr, Some, None, ◌∙◌, arith}
use Rattle.std.proofs.lemmas.Bool.{cases_lt}
use Rattle.search.proofs.Begun.{looked_all}
use Rattle.search.proofs.Rounds.{quiet_less, quiet_first, quiet_all, quiet_more, found_at, none_found}
use Rattle.search.proofs.find.find_break.Goals as goal
use Rattle.search.proofs.find.find_break.Goals.{in-Some+else-loop-m-test, in_default}

pub returns-after-search : goal.returns-after-search
returns-after-search g c =
    let rel = (g.R.Relation.meaning c.args.relation.now).rows in
    let rules = (g.B.Book.meaning c.args.book.now).rules in
    let n = c.count-count.result in
    let turns = c.args.turns in
    none_found rel rules c.args.first turns _ c.search.invariant.0 (elim (cases_lt n turns) [
      | inl h ↦ quiet_all rel rules c.args.first n turns c.count-count.ensures (omega arith) (omega arith) (quiet_first rel rules c.args.first n n c.count-count.ensures (quiet_less rel rules _ _ _ (omega (arith, c.min-most.ensures, c.search-test.false)) c.search.invariant.1))
      | inr h ↦ quiet_first rel rules c.args.first n turns c.count-count.ensures (quiet_less rel rules _ _ _ (omega (arith, c.min-most.ensures, c.search-test.false)) c.search.invariant.1)
    ])

pub search-preserved : goal.search-preserved
search-preserved g c =
    let rel = (g.R.Relation.meaning c.args.relation.now).rows in
    let rules = (g.B.Book.meaning c.args.book.now).rules in
    let n = c.count-count.result in
    elim c.match-begin.branch [
      | in-Some+else-loop-m-test w ↦ (
        w.found-is ∙ w.loop-m.invariant.0,
        quiet_more rel rules (c.args.first % n) n c.search.turn c.count-count.ensures w.loop-m.invariant.1
            (w.in-Some.ensures.0 None (looked_all rel c.choices_of-choices.result w.loop-m.scratch.seen w.in-Some.look w.loop-m.m c.choices_of-choices.ensures (omega (arith, c.count-tries.ensures)) w.loop-m.invariant.2)),
      )
      | in_default w ↦ (w.found-is ∙ c.search.invariant.0, quiet_more rel rules (c.args.first % n) n c.search.turn c.count-count.ensures c.search.invariant.1 w.in_default.ensures)
    ]

pub returns-in-Some-look_from : goal.returns-in-Some-look_from
returns-in-Some-look_from g c =
    let rel = (g.R.Relation.meaning c.args.relation.now).rows in
    let spot = c.in-Some-look_from.spot in
    found_at rel (g.B.Book.meaning c.args.book.now).rules c.args.first c.count-count.result c.args.turns c.search.turn spot c.count-count.ensures (omega arith) (omega (arith, c.min-most.ensures))
    (c.in-Some.ensures.0 (Some spot) c.in-Some-look_from.ensures)
