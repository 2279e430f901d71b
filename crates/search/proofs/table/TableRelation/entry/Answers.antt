use Rattle.search.proofs.Entries.{cut-some, cut-past, cut-wide}
use Rattle.search.proofs.table.TableRelation.entry.Goals as goal
use Rattle.search.proofs.table.TableRelation.entry.Goals.{else-row-self-via-then-row-self+else-column-self, else-row-self-via-else-row-self}

pub returns-then-column-self : goal.returns-then-column-self
returns-then-column-self c = cut-some _ _ _ _ c.if-row-self.true c.if-column-self.true

pub returns-else-row-self : goal.returns-else-row-self
returns-else-row-self c =
    elim c.else-row-self.branch [ else-row-self-via-then-row-self+else-column-self w ↦ cut-wide _ _ _ _ w.if-row-self.true w.if-column-self.false | else-row-self-via-else-row-self w ↦ cut-past _ _ _ _ w.if-row-self.false ]
