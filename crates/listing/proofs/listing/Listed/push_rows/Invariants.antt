use Rattle.std.proofs.Common.{◌≡◌, ◌++◌, take, string_bytes}
use Rattle.std.specs.List.{flat_map}
use Rattle.listing.specs.Listing.{row_text, rule_here}
use Rattle.listing.proofs.listing.Listed.push_rows.Given as goal

abbrev pub invariant-loop-row : goal.invariant-loop-row
invariant-loop-row g l =
    string_bytes l.out ≡ string_bytes l.initial.out ++ flat_map row_text (take l.row (rule_here (g.B.Book.meaning l.self.book.now).rules l.self.rule).pattern)
