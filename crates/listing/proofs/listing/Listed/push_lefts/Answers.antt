use Rattle.std.proofs.Common.{map, refl, rules}
use Rattle.std.proofs.Common.{ℕ}
use Rattle.rules.specs.Books.{left_at}
use Rattle.listing.specs.Listing.{rule_here, term_text}
use Rattle.rules.specs.declared.term.Term.TheVariants.{Variable}
use Rattle.listing.specs.declared.words.Entry.{Entry}
use Rattle.listing.proofs.Steps.{fit_here, in_left, on_ok, shown_all}
use Rattle.listing.proofs.listing.Listed.push_lefts.Goals as goal

pub returns : goal.returns
returns g c = on_ok c.push_each.result c.push_each.ensures (λ told.
    let s = c.args.self.now in
    let b = g.B.Book.meaning s.book.now in
    let it = rule_here b.rules s.rule in
    let show : ℕ → Entry = λ v. record { 0 = Variable v } in
    shown_all show (λ e. term_text e.0) it.left 32 (left_at b.rules s.rule) _ _ (in_left b.rules s.rule s.there)
    (fit_here b (g.B.Book.well s.book.now) s.rule s.there).few_left (told (λ e. term_text e.0) (map show it.left) (λ x. refl)) (λ k o h. search rules))
