use Rattle.std.proofs.Common.{sym, ◌∙◌, subst}
use Rattle.rules.specs.Books.{WellFormed}
use Rattle.rules.specs.Loaded.{Form, meant}
use Rattle.rules.proofs.Copies.{sized}
use Rattle.rules.proofs.Forms.{form_doubled}
use Rattle.rules.proofs.doubling.load_doubled.Goals as goal

pub doubled_of-requires-clause-sized : goal.doubled_of-requires-clause-sized
doubled_of-requires-clause-sized g c = sized _ c.in_ok-load.ensures.of_book

pub returns : goal.returns
returns g c =
    let book = g.B.Book.meaning c.args.book.now in
    let loaded = c.in_ok-load.ensures in
    let l = c.in_ok-load.field-0 in
    record {
      rule = meant l;
      there = loaded.is;
      is = c.doubled_of.ensures.means;
      width = c.doubled_of.ensures.width ∙ loaded.width;
      form = subst (Form book.width) (sym c.doubled_of.ensures.means) (form_doubled book.width (meant l) (g.B.Book.well c.args.book.now).small_width (subst (λ w. WellFormed w (meant l)) loaded.width loaded.of_book.fits));
    }
