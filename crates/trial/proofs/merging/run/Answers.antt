use Rattle.std.proofs.Common.{◌≤◌, max, length, refl, arith}
use Rattle.rules.specs.Books.{base}
use Rattle.trial.proofs.Merges.{merged_none, merged_more, clashed_on, clashing_on, spot_open, rests, room}
use Rattle.trial.proofs.merging.run.Goals as goal

pub loop-made-init : goal.loop-made-init
loop-made-init g c = (merged_none (g.B.Book.meaning c.args.book.now) (g.B.Book.well c.args.book.now) c.args.start c.requires, omega arith)

pub merge-requires : goal.merge-requires
merge-requires g c =
    let b = g.B.Book.meaning c.args.book.now in
    let h' = c.loop-made.held in
    let l : base ≤ max c.in-Some.spot.one c.in-Some.spot.other = omega (arith, c.max.ensures, c.if-max-lt-BASE.false) in
    room b (g.B.Book.well c.args.book.now) h' h'.at (length b.rules) c.in-Some.spot c.in-Some.ensures l

pub loop-made-preserved : goal.loop-made-preserved
loop-made-preserved g c =
    let b = g.B.Book.meaning c.args.book.now in
    let h' = c.loop-made.held in
    let l : base ≤ max c.in-Some.spot.one c.in-Some.spot.other = omega (arith, c.max.ensures, c.if-max-lt-BASE.false) in (
      merged_more b (g.B.Book.well c.args.book.now) c.args.start h' c.loop-made.made c.loop-made.invariant.0 h'.at (length b.rules) c.in-Some.spot c.in-Some.ensures l c.merge.new.self c.merge.ensures,
      omega (arith, c.loop-made.invariant.1, c.if-made-n.false),
    )

pub returns-in_default : goal.returns-in_default
returns-in_default g c =
    let b = g.B.Book.meaning c.args.book.now in
    let h' = c.loop-made.held in
    (c.loop-made.invariant.0, omega arith, rests b (g.B.Book.well c.args.book.now) c.args.start h' c.loop-made.made c.loop-made.invariant.0 h'.at (length b.rules) refl c.in_default.ensures)

pub returns-then-max-lt-BASE : goal.returns-then-max-lt-BASE
returns-then-max-lt-BASE g c =
    let b = g.B.Book.meaning c.args.book.now in
    let fits = g.B.Book.well c.args.book.now in
    let h = c.args.start in
    let h' = c.loop-made.held in
    let spot = c.in-Some.spot in
    let o = spot_open b fits h h' c.loop-made.made c.loop-made.invariant.0 h'.at (length b.rules) spot c.in-Some.ensures in (
      clashed_on b fits h h' c.loop-made.made c.loop-made.invariant.0 spot c.clash.new.self c.clash.ensures,
      omega arith,
      clashing_on b.rules h h' c.clash.new.self spot c.clash.ensures o (omega (arith, c.max.ensures, c.if-max-lt-BASE.true)),
    )
