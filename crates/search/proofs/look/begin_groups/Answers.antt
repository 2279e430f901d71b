use Rattle.std.proofs.Common.{[], sym, refl, ap, ◌∙◌}
use Rattle.search.proofs.Begun.{groups_begun}
use Rattle.search.proofs.Breaks.{keeps_functional}
use Rattle.search.proofs.Entries.{fitting}
use Rattle.search.proofs.Groups.{fine_empty}
use Rattle.search.proofs.Orders.{groupable_order, keeps_order}
use Rattle.search.proofs.Sounds.{groupable_rule}
use Rattle.search.proofs.Walks.{none_placed}
use Rattle.search.proofs.look.begin_groups.Goals as goal

pub returns-then-width-own : goal.returns-then-width-own
returns-then-width-own g c =
    let relation = g.R.Relation.meaning c.args.relation.now in
    let own = c.args.own.now in
    keeps_functional relation.rows own c.requires.kind c.requires.of (λ f _ placed. absurd (none_placed relation.rows own (record { origin = []; tests = [] }) relation.width (groupable_rule own c.requires.kind c.requires.of).sound.some (fitting relation.width relation.rows (g.R.Relation.even c.args.relation.now)) (λ e. c.if-width-own.true (c.width.ensures ∙ e)) f placed))

pub in_order-order-requires : goal.in_order-order-requires
in_order-order-requires g c = groupable_rule c.args.own.now c.requires.kind c.requires.of

pub plan_of-plan-requires : goal.plan_of-plan-requires
plan_of-plan-requires g c = (groupable_order (g.R.Relation.meaning c.args.relation.now).rows c.args.own.now _ _ c.in_order-order.ensures.same c.in_order-order.ensures.order (groupable_rule c.args.own.now c.requires.kind c.requires.of)).sound

pub is_quiet-requires : goal.is_quiet-requires
is_quiet-requires g c = (groupable_order (g.R.Relation.meaning c.args.relation.now).rows c.args.own.now _ _ c.in_order-order.ensures.same c.in_order-order.ensures.order (groupable_rule c.args.own.now c.requires.kind c.requires.of)).sound

pub returns-then-is_quiet : goal.returns-then-is_quiet
returns-then-is_quiet g c = keeps_functional (g.R.Relation.meaning c.args.relation.now).rows c.args.own.now c.requires.kind c.requires.of (keeps_order (g.R.Relation.meaning c.args.relation.now).rows c.args.own.now _ _ c.in_order-order.ensures.same c.in_order-order.ensures.order (c.is_quiet.ensures c.if-is_quiet.true))

pub bound_of-bound-requires : goal.bound_of-bound-requires
bound_of-bound-requires g c = groupable_order (g.R.Relation.meaning c.args.relation.now).rows c.args.own.now _ _ c.in_order-order.ensures.same c.in_order-order.ensures.order (groupable_rule c.args.own.now c.requires.kind c.requires.of)

pub returns : goal.returns
returns g c =
    let relation = g.R.Relation.meaning c.args.relation.now in (
      refl,
      refl,
      λ d. groups_begun relation.rows d c.clear.new.seen _ (record {
        few = c.requires.few;
        of = c.requires.of;
        functional = c.requires.kind;
        same = c.in_order-order.ensures.same;
        order = c.in_order-order.ensures.order;
        groupable = groupable_order relation.rows c.args.own.now _ _ c.in_order-order.ensures.same c.in_order-order.ensures.order (groupable_rule c.args.own.now c.requires.kind c.requires.of);
        planned = c.plan_of-plan.ensures;
        bounded = c.bound_of-bound.ensures;
        fitting = λ k h. fitting relation.width relation.rows (g.R.Relation.even c.args.relation.now) k h ∙ sym c.width.ensures ∙ c.if-width-own.false ∙ sym (ap (λ x. x.width) c.in_order-order.ensures.same);
      }) (fine_empty _ _ _ _ c.clear.ensures.none c.clear.ensures.heads) c.clear.ensures.none,
    )
