use Rattle.std.proofs.Common.{[], sym, refl, ◌∙◌}
use Rattle.search.proofs.Breaks.{keeps_equality}
use Rattle.search.proofs.Entries.{fitting}
use Rattle.search.proofs.Walks.{none_placed}
use Rattle.search.proofs.look.begin_walk.Goals as goal

pub returns-then-width-form : goal.returns-then-width-form
returns-then-width-form g c =
    let relation = g.R.Relation.meaning c.args.relation.now in
    keeps_equality relation.rows c.args.form.now c.requires.kind (λ f placed. absurd (none_placed relation.rows c.args.form.now (record { origin = []; tests = [] }) relation.width c.requires.sound.some (fitting relation.width relation.rows (g.R.Relation.even c.args.relation.now)) (λ e. c.if-width-form.true (c.width.ensures ∙ e)) f placed))

pub returns : goal.returns
returns g c =
    let relation = g.R.Relation.meaning c.args.relation.now in (
      refl,
      refl,
      record {
        sound = c.requires.sound;
        equality = c.requires.kind;
        planned = c.plan_of.ensures;
        fitting = λ k h. fitting relation.width relation.rows (g.R.Relation.even c.args.relation.now) k h ∙ sym c.width.ensures ∙ c.if-width-form.false;
      },
    )
