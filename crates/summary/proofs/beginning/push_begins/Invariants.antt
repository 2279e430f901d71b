use Rattle.std.proofs.Common.{◌≡◌, ◌+◌, ◌*◌, ◌≤◌, ◌++◌, drop, vec_items}
use Rattle.summary.specs.Summary.{after, begins, begins_text}
use Rattle.summary.proofs.beginning.push_begins.Given as goal

abbrev pub invariant-loop-rule : goal.invariant-loop-rule
invariant-loop-rule g l =
    (after l.line (drop l.rule (g.B.Book.meaning l.book).rules) ≡ after l.first (g.B.Book.meaning l.book).rules)
    × (vec_items l.out ++ begins_text l.what (l.rule + 1) (begins l.line (drop l.rule (g.B.Book.meaning l.book).rules)) ≡ vec_items l.initial.out ++ begins_text l.what 1 (begins l.first (g.B.Book.meaning l.book).rules))
    × (l.line ≤ l.first + 72 * l.rule)
