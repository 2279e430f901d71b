-- A look that has begun, and one that has come to its end.
use Rattle.std.proofs.Common.{◌≡◌, ℕ, ◌+◌, ◌<◌, ◌≤◌, List, replicate, Some, None, Option, sym, subst, arith, MatchOption}
use Rattle.rules.specs.declared.loaded.LoadedRule.{LoadedRule}
use Rattle.rules.specs.Rules.{Relation, Rule, Keeps}
use Rattle.rules.specs.Loaded.{meant}
use Rattle.search.specs.declared.choices.Choices.{Choices}
use Rattle.search.specs.declared.look.Grouping.{Grouping}
use Rattle.search.specs.declared.look.Walking.{Walking}
use Rattle.search.specs.declared.look.Look.{Look}
use Rattle.search.specs.declared.look.Look.TheVariants.{Groups, Walk}
use Rattle.search.specs.declared.seen.Seen.{Seen}
use Rattle.search.specs.Placings.{choice_count, Picks, choices}
use Rattle.search.specs.Progress.{GroupReady, GroupTried, Links, Progress, look_number, look_rule, WalkReady, WalkTried}
use Rattle.search.specs.Seens.{Fine}
use Rattle.search.specs.Spots.{LookedAt}
use Rattle.search.proofs.Breaks.{keeps_equality, keeps_functional}
use Rattle.search.proofs.Groups.{all_grouped, choices-all, turn_none, turn_room}
use Rattle.search.proofs.Orders.{keeps_order}
use Rattle.search.proofs.Walks.{all_placed}

-- a look at a rule of the book under its own number
pub linked : (rel : Relation) (rules : List Rule) (rule own : LoadedRule) (n number : ℕ) → n ≡ number → own ≡ rule → Links rel rules (meant rule) number number → Links rel rules (meant own) n number
linked rel rules rule own n number en eo links = subst (λ x. Links rel rules (meant own) x number) (sym en) (subst (λ x. Links rel rules (meant x) number number) (sym eo) links)

pub linked_walk : (rel : Relation) (rules : List Rule) (form : LoadedRule) (number : ℕ) → Links rel rules (meant form) number number → (o : Option Walking)
    → MatchOption o (Keeps rel (meant form)) (λ look. (look.number ≡ number) × (look.rule ≡ form) × WalkReady rel look)
    → MatchOption o (LookedAt rel rules number None) (λ look. Links rel rules (meant look.rule) look.number number × WalkReady rel look)
linked_walk rel rules form number links None keeps = links None keeps
linked_walk rel rules form number links (Some look) (n, is, ready) = (linked rel rules form look.rule look.number number n is links, ready)

pub linked_groups : (rel : Relation) (rules : List Rule) (own : LoadedRule) (number : ℕ) (seen : Seen) → Links rel rules (meant own) number number → (o : Option Look)
    → MatchOption o (Keeps rel (meant own)) (λ look. (look_number look ≡ number) × (look_rule look ≡ own) × ((d : Choices) → Progress rel d seen look 0))
    → MatchOption o (LookedAt rel rules number None) (λ look. Links rel rules (meant (look_rule look)) (look_number look) number × ((d : Choices) → Progress rel d seen look 0))
linked_groups rel rules own number seen links None keeps = links None keeps
linked_groups rel rules own number seen links (Some look) (n, is, begun) = (linked rel rules own (look_rule look) (look_number look) number n is links, begun)

pub walk_begun : (rel : Relation) (d : Choices) (look : Walking) → WalkReady rel look → WalkTried rel d look 0
walk_begun rel d look ready = record { ready = ready; tried = λ k h. absurd (omega arith) }

pub groups_begun : (rel : Relation) (d : Choices) (seen : Seen) (look : Grouping) → GroupReady rel look → Fine rel look.rule look.plan seen → seen.used ≡ 0 → GroupTried rel d seen look 0
groups_begun rel d seen look ready fine empty = record { ready = ready; before = seen; empty = empty; turn = turn_none rel look.rule look.plan d seen 0 (replicate 4 0) fine }

module _ (rel : Relation) (d : Choices) where
  pub group_room : (seen : Seen) (look : Grouping) (m : ℕ) → m < choice_count d → Picks rel d → (t : GroupTried rel d seen look m) → seen.used + choices d look.rule 1 ≤ 4096
  group_room seen look m more picks t =
      let ready = t.ready in
      let few = choices-all rel look.rule look.plan d ready.groupable.few (omega (arith, picks.few, ready.few)) in
      turn_room rel look.rule look.plan d t.before seen 0 m (replicate 4 0) ready.groupable.sound.some more t.turn (omega (arith, t.empty))

  -- a look that came to its end without a break
  pub all_groups : (seen : Seen) (look : Grouping) (n : ℕ) → Picks rel d → choice_count d ≤ n → GroupTried rel d seen look n → Keeps rel (meant look.own)
  all_groups seen look n picks le t =
      let ready = t.ready in
      keeps_functional rel look.own ready.functional ready.of (keeps_order rel look.own look.rule look.places ready.same ready.order (all_grouped rel look.rule look.plan d t.before seen n picks ready.groupable.sound.some le t.turn))

  pub all_walked : (look : Walking) (n : ℕ) → Picks rel d → choice_count d ≤ n → WalkTried rel d look n → Keeps rel (meant look.rule)
  all_walked look n picks le t =
      let ready = t.ready in
      keeps_equality rel look.rule ready.equality (all_placed rel look.rule look.plan d n picks ready.sound.some le t.tried)

  pub looked_all : (seen : Seen) (look : Look) (n : ℕ) → Picks rel d → choice_count d ≤ n → Progress rel d seen look n → Keeps rel (meant (look_rule look))
  looked_all seen (Groups look) n picks le t = all_groups seen look n picks le t
  looked_all seen (Walk look) n picks le t = all_walked look n picks le t
