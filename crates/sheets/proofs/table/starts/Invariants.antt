use Rattle.std.proofs.Common.{◌≡◌, ◌-◌, ◌≤◌, length}
use Rattle.sheets.specs.Walk.{rules_end}
use Rattle.sheets.specs.Facts.{start_of, Starts}
use Rattle.sheets.proofs.table.starts.Given as goal

abbrev pub invariant-loop-start : goal.invariant-loop-start
invariant-loop-start l =
    (l.at ≡ start_of l.words l.width l.start-index 2)
    × (l.at ≤ length l.words)
    × (rules_end l.words l.width (l.count - l.start-index) l.at ≡ rules_end l.words l.width l.count 2)
    × Starts l.words l.width l.start-index l.start-items
    × (length l.start-items ≡ l.count)
