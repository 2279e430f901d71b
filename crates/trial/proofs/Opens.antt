-- What the search finds is an open spot, and a quiet round is rest.
use Rattle.std.proofs.Common.{◌≡◌, ℕ, ◌+◌, ◌-◌, ◌%◌, ◌<◌, ◌≤◌, ◌⊎◌, List, length, Some, sym, ◌∙◌, subst, inl, inr, mod-lt, mod-eq_of_lt, arith}
use native.Mathlib.Nat.{mod-add-mod, add-mod_right}
use Rattle.std.specs.List.{slice_get}
use Rattle.std.proofs.lemmas.Bool.{cases_lt}
use Rattle.std.proofs.lemmas.Option.{slice_get_within}
use Rattle.rules.specs.Rules.{Relation, Rule}
use Rattle.rules.proofs.Nths.{nth_member, member_nth}
use Rattle.law.specs.Runs.{OpenSpot}
use Rattle.search.specs.declared.spot.Spot.{Spot}
use Rattle.search.specs.Spots.{turned, Found, Quiet}

pub found-open : (rel : Relation) (rules : List Rule) (first turns : ℕ) (s : Spot) → Found rel rules first turns s → OpenSpot rules rel s.one s.other
found-open rel rules first turns s f =
    let broken = f.break in
    record {
      rule = f.broken;
      listed = nth_member rules s.rule f.broken f.there;
      first = broken.f;
      second = broken.g;
      compared = broken.compares;
      pair = broken.sides;
      paired = nth_member f.broken.pairs s.pair broken.sides broken.pair;
      left_is = broken.on_first;
      right_is = broken.on_second;
      differ = broken.differ;
    }

-- each rule has its turn in a full round
turn_of : (n first i : ℕ) → i < n → (t : ℕ) × (t < n) × (turned n first t ≡ i)
turn_of n first i h = go (cases_lt i (first % n))
  where
    low : first % n < n
    low = mod-lt first (omega arith)

    go : (i < first % n) ⊎ (first % n ≤ i) → (t : ℕ) × (t < n) × (turned n first t ≡ i)
    go (inl l) =
        let t = i + n - first % n in
        let whole : first % n + t ≡ i + n = omega arith in
        (t, omega arith, sym (mod-add-mod first n t) ∙ subst (λ (k : ℕ). k % n ≡ i % n) (sym whole) (add-mod_right i n) ∙ mod-eq_of_lt h)
    go (inr l) =
        let t = i - first % n in
        let whole : first % n + t ≡ i = omega arith in
        (t, omega arith, sym (mod-add-mod first n t) ∙ subst (λ (k : ℕ). k % n ≡ i) (sym whole) (mod-eq_of_lt h))

pub quiet_rest : (rel : Relation) (rules : List Rule) (first : ℕ) → Quiet rel rules first (length rules) → (x y : ℕ) → OpenSpot rules rel x y → ⊥
quiet_rest rel rules first quiet x y o =
    let (i, at_i) = member_nth rules o.rule o.listed in
    let (t, within, is) = turn_of (length rules) first i (slice_get_within rules i o.rule at_i) in
    let keeps = quiet t within o.rule (subst (λ (k : ℕ). slice_get rules k ≡ Some o.rule) (sym is) at_i) in
    o.differ (sym o.left_is ∙ keeps o.first o.second o.compared o.pair o.paired ∙ o.right_is)
