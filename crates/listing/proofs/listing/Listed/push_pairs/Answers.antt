use Rattle.std.proofs.Common.{map, refl, rules}
use Rattle.rules.specs.Books.{pair_at}
use Rattle.listing.specs.Listing.{rule_here, pair_text}
use Rattle.rules.specs.declared.term.Term.{Term}
use Rattle.listing.specs.declared.words.PairLine.{PairLine}
use Rattle.listing.proofs.Steps.{fit_here, in_pairs, on_ok, shown_all}
use Rattle.listing.proofs.listing.Listed.push_pairs.Goals as goal

pub returns : goal.returns
returns g c = on_ok c.push_each.result c.push_each.ensures (λ told.
    let s = c.args.self.now in
    let b = g.B.Book.meaning s.book.now in
    let it = rule_here b.rules s.rule in
    let show : Term × Term → PairLine = λ p. record { 0 = p.0; 1 = p.1 } in
    shown_all show (λ e. pair_text (e.0, e.1)) it.pairs 32 (pair_at b.rules s.rule) _ _ (in_pairs b.rules s.rule s.there)
    (fit_here b (g.B.Book.well s.book.now) s.rule s.there).few_pairs (told (λ e. pair_text (e.0, e.1)) (map show it.pairs) (λ x. refl)) (λ k o h. search rules))
