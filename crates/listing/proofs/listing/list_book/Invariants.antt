use Rattle.std.proofs.Common.{◌≡◌, ◌++◌, drop, string_bytes}
use Rattle.listing.specs.Listing.{rules_text}
use Rattle.listing.proofs.listing.list_book.Given as goal

abbrev pub invariant-loop-rule : goal.invariant-loop-rule
invariant-loop-rule g l = string_bytes l.out ++ rules_text l.rule (drop l.rule (g.B.Book.meaning l.book).rules) ≡ rules_text 0 (g.B.Book.meaning l.book).rules
