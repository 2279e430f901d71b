use Rattle.std.proofs.Common.{map, refl, rules}
use Rattle.rules.specs.Books.{term_at}
use Rattle.listing.specs.Listing.{rule_here, term_text}
use Rattle.rules.specs.declared.term.Term.{Term}
use Rattle.listing.specs.declared.words.Entry.{Entry}
use Rattle.listing.proofs.Steps.{in_row, on_ok, short_row, shown_all}
use Rattle.listing.proofs.listing.Listed.push_terms.Goals as goal

pub returns : goal.returns
returns g c = on_ok c.push_each.result c.push_each.ensures (λ told.
    let s = c.args.self.now in
    let b = g.B.Book.meaning s.book.now in
    let it = rule_here b.rules s.rule in
    λ terms e.
    let show : Term → Entry = λ t. record { 0 = t } in
    shown_all show (λ e. term_text e.0) terms 8 (term_at b.rules s.rule c.args.row) _ _ (in_row b.rules s.rule s.there c.args.row terms e)
    (short_row b (g.B.Book.well s.book.now) s.rule s.there c.args.row terms e) (told (λ e. term_text e.0) (map show terms) (λ x. refl)) (λ k o h. search rules))
