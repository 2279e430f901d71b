use Rattle.std.proofs.Common.{◌≡◌, ◌≤◌, drop}
use Rattle.text.specs.Counts.{within, digits_from, count_of}
use Rattle.text.proofs.counts.parse_count.Given as goal

abbrev pub invariant-loop-b : goal.invariant-loop-b
invariant-loop-b l = (l.value ≤ l.high) × (within l.low l.high (digits_from l.value (drop l.b-index l.word)) ≡ count_of l.low l.high l.word)
