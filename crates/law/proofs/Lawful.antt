-- What is so in every state that merges lead to.
use Rattle.std.proofs.Common.{◌≡◌, ℕ, suc, ◌+◌, ◌≤◌, List, subst, arith}
use Rattle.rules.specs.Rules.{◌∈◌, Relation, Pattern, Rule}
use Rattle.rules.specs.Books.{BookMeaning}
use Rattle.law.specs.Groups.{State, Alone, current, symbol_count, group_count}
use Rattle.law.specs.Runs.{OpenSpot, Merge, Clashing, Merges, none, more, Run}
use Rattle.law.specs.Laws.{MoreRulesStillARun}
use Rattle.law.proofs.Starting.{Fit}
use Rattle.law.proofs.Sound.{Sound, alone_sound, merge_sound}
use Rattle.law.proofs.Shown.{Shape, alone_shape, merge_shape, merge_counts, alone_counts, few_symbols}

-- a state after n merges: it is sound, shows groups by their least symbols, and has n groups less than at first
pub record Lawful (b : BookMeaning) (start : Pattern) (s : State) (n : ℕ) : Type 0 where
  pub sound : Sound b start s
  pub shape : Shape start s
  pub counted : n + group_count start s ≡ symbol_count start

pub alone_lawful : (b : BookMeaning) (start : Pattern) (s : State) → Alone start s → Lawful b start s 0
alone_lawful b start s alone =
    record { sound = alone_sound b start s alone; shape = alone_shape start s alone; counted = let e = alone_counts s start alone in omega arith }

module _ (b : BookMeaning) (start : Pattern) (fit : Fit b start) where
  pub merge_lawful : (s s' : State) (n : ℕ) → Merge b.rules start s s' → Lawful b start s n → Lawful b start s' (suc n)
  merge_lawful s s' n m l =
      let before = l.counted in
      let step = merge_counts b.width b.rules start fit.held s s' m in
      record { sound = merge_sound b start fit s s' m l.sound; shape = merge_shape b.width b.rules start fit.held s s' m l.shape; counted = omega arith }

  pub merges_lawful : (s : State) (n : ℕ) → Lawful b start s n → {s' : State} {m : ℕ} → Merges b.rules start s s' m → Lawful b start s' (n + m)
  merges_lawful s n l none =
      let k : n ≡ n + 0 = omega arith in
      subst (λ (i : ℕ). Lawful b start s i) k l
  merges_lawful s n l {s'} (more {s' = s₁} {m = m} ms step) =
      let k : suc (n + m) ≡ n + suc m = omega arith in
      subst (λ (i : ℕ). Lawful b start s' i) k (merge_lawful s₁ s' (n + m) step (merges_lawful s n l ms))

  pub run_lawful : (s : State) (n : ℕ) → Run b.rules start s n → Lawful b start s n
  run_lawful s n r =
      let k : 0 + n ≡ n = omega arith in
      subst (λ (i : ℕ). Lawful b start s i) k (merges_lawful r.first 0 (alone_lawful b start r.first r.alone) r.merges)

  -- at most 64 merges are made over a trial's life
  pub few_merges : (s : State) (n : ℕ) → Lawful b start s n → n ≤ 64
  few_merges s n l =
      let e = l.counted in
      let k = few_symbols start fit.near in
      omega arith

-- with more rules an open spot is still open, and a run is still a run
module _ (rules rules' : List Rule) (wider : (r : Rule) → r ∈ rules → r ∈ rules') where
  pub wider_spot : (rel : Relation) (x y : ℕ) → OpenSpot rules rel x y → OpenSpot rules' rel x y
  wider_spot rel x y o =
      record {
        rule = o.rule;
        listed = wider o.rule o.listed;
        first = o.first;
        second = o.second;
        compared = o.compared;
        pair = o.pair;
        paired = o.paired;
        left_is = o.left_is;
        right_is = o.right_is;
        differ = o.differ;
      }

  pub wider_merge : (start : Pattern) (s s' : State) → Merge rules start s s' → Merge rules' start s s'
  wider_merge start s s' m =
      record { x = m.x; y = m.y; spot = wider_spot (current start s) m.x m.y m.spot; no_clash = m.no_clash; merged = m.merged }

  pub wider_clash : (start : Pattern) (s : State) → Clashing rules start s → Clashing rules' start s
  wider_clash start s c = record { x = c.x; y = c.y; spot = wider_spot (current start s) c.x c.y c.spot; constants = c.constants }

  pub wider_merges : (start : Pattern) (s : State) {s' : State} {m : ℕ} → Merges rules start s s' m → Merges rules' start s s' m
  wider_merges start s none = none
  wider_merges start s {s'} (more {s' = s₁} ms step) = more (wider_merges start s ms) (wider_merge start s₁ s' step)

pub more_rules : MoreRulesStillARun
more_rules rules rules' wider =
    record {
      merges = λ start s s' m merges. wider_merges rules rules' wider start s merges;
      clash = wider_clash rules rules' wider;
      rest = λ start s rest x y o. rest x y (wider_spot rules rules' wider (current start s) x y o);
    }
