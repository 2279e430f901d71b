use Rattle.search.proofs.Begun.{linked_walk}
use Rattle.search.proofs.Rounds.{looked_form, form_equality}
use Rattle.search.proofs.Sounds.{sound_of}
use Rattle.search.proofs.look.begin_doubled.Goals as goal

pub begin_walk-requires : goal.begin_walk-requires
begin_walk-requires g c =
    let form = c.in_ok-load_doubled.ensures in
    record { sound = sound_of _ _ form.width form.form; kind = form_equality _ _ _ form }

pub returns : goal.returns
returns g c =
    let rel = (g.R.Relation.meaning c.args.relation.now).rows in
    let book = g.B.Book.meaning c.args.book.now in
    linked_walk rel book.rules c.in_ok-load_doubled.field-0 c.args.number (λ o. looked_form rel book (g.B.Book.well c.args.book.now) c.args.number _ o c.in_ok-load_doubled.ensures) c.begin_walk.result c.begin_walk.ensures
