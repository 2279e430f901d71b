use Rattle.std.proofs.Common.{Some, ap, ◌∙◌, arith}
use Rattle.trial.proofs.Currents.{entry-some, entry_past, entry-wide, few_rows, small_width}
use Rattle.trial.proofs.rows.HeldRelation.entry.Goals as goal
use Rattle.trial.proofs.rows.HeldRelation.entry.Goals.{else-row-self-via-then-row-self+else-column-self, else-row-self-via-else-row-self}

pub offset_bounds-self-row : goal.offset_bounds-self-row
offset_bounds-self-row c = omega (arith, few_rows c.args.self.now)

pub offset_bounds-self-column : goal.offset_bounds-self-column
offset_bounds-self-column c = omega (arith, small_width c.args.self.now)

pub bounds-self-row : goal.bounds-self-row
bounds-self-row c = omega (arith, few_rows c.args.self.now)

pub bounds-self-column : goal.bounds-self-column
bounds-self-column c = omega (arith, small_width c.args.self.now)

pub returns-then-column-self : goal.returns-then-column-self
returns-then-column-self c =
    let h = c.args.self.now in
    ap Some c.shown_as.ensures ∙ entry-some h c.args.row c.args.column c.if-row-self.true c.if-column-self.true

pub returns-else-row-self : goal.returns-else-row-self
returns-else-row-self c =
    elim c.else-row-self.branch [ else-row-self-via-then-row-self+else-column-self w ↦ entry-wide c.args.self.now c.args.row c.args.column w.if-row-self.true w.if-column-self.false | else-row-self-via-else-row-self w ↦ entry_past c.args.self.now c.args.row c.args.column w.if-row-self.false ]
