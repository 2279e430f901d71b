use Rattle.std.proofs.Common.{◌≡◌, ℕ, ◌<◌}
use Rattle.rules.specs.Loaded.{loaded_term}
use Rattle.search.proofs.order.is_same.Given as goal

abbrev pub invariant-loop-column : goal.invariant-loop-column
invariant-loop-column l = (c : ℕ) → c < l.column → loaded_term l.other l.j c ≡ loaded_term l.rule l.i c
