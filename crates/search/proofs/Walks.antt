-- The steps of a walk through placings.
use Rattle.std.proofs.Common.{◌≡◌, ℕ, ◌+◌, ◌<◌, ◌≤◌, ◌⊎◌, List, [], length, get_or, set, replicate, Some, None, Option, sym, ap, ◌∙◌, subst, inl, inr, arith, MatchOption}
use Rattle.std.proofs.lemmas.List.{get_or-set_same, get_or-set_other}
use Rattle.std.proofs.lemmas.Bool.{cases_eq}
use Rattle.rules.specs.declared.loaded.LoadedRule.{LoadedRule}
use Rattle.rules.specs.Loaded.{loaded_pair}
use Rattle.search.specs.declared.plan.Plan.{Plan}
use Rattle.search.specs.declared.choices.Choices.{Choices}
use Rattle.search.specs.declared.walk.Split.{Split}
use Rattle.search.specs.Placings.{choice_count, filled, place, Lands, Placed, Landed, Origins, Sound, From, With, Joins, AllJoin, SplitAt, Picks, chosen}
use Rattle.search.proofs.Plans.{filled-stands, filled-lands}

pub place_same : (p : List ℕ) (depth k : ℕ) → depth < length p → place (set p depth k) depth ≡ k
place_same p depth k h = get_or-set_same p depth k 0 h

pub place_other : (p : List ℕ) (depth k i : ℕ) → (i ≡ depth → ⊥) → place (set p depth k) i ≡ place p i
place_other p depth k i ne = get_or-set_other p depth i k 0 ne

module _ (rel : List (List ℕ)) (rule : LoadedRule) (plan : Plan) where
  module _ (origins : Origins rule plan) (depth k : ℕ) (p : List ℕ) (long : depth < length p) (within : depth < rule.row_count) where
    lands_below : (f : ℕ → ℕ) → ((i : ℕ) → i < depth → Lands rel rule f i (place p i)) → Lands rel rule f depth k → (i : ℕ) → i < depth + 1 → Lands rel rule f i (place (set p depth k) i)
    lands_below f lands last i h = by_case (cases_eq i depth)
      where
        by_case : (i ≡ depth) ⊎ (i ≡ depth → ⊥) → Lands rel rule f i (place (set p depth k) i)
        by_case (inl e) = subst (λ x. Lands rel rule f x (place (set p depth k) x)) (sym e) (subst (Lands rel rule f depth) (sym (place_same p depth k long)) last)
        by_case (inr ne) = subst (Lands rel rule f i) (sym (place_other p depth k i ne)) (lands i (omega arith))

    -- a row that does not fit clashes with every valuation
    pub tried_clash : (P : (ℕ → ℕ) → Type 0) → (Lands rel rule (filled rel plan (set p depth k)) depth (place (set p depth k) depth) → ⊥) → With rel rule depth p k P
    tried_clash P clash f lands last placed = absurd (clash (filled-lands rel rule plan origins (set p depth k) f (depth + 1) (omega arith) (lands_below f lands last) depth (omega arith)))

    pub tried_next : (P : (ℕ → ℕ) → Type 0) → From rel rule (depth + 1) (set p depth k) P → With rel rule depth p k P
    tried_next P all f lands last placed = all f (lands_below f lands last) (λ i low high. placed i (omega arith) high)

    pub landed_more : Landed rel rule plan p depth → Lands rel rule (filled rel plan (set p depth k)) depth (place (set p depth k) depth) → Landed rel rule plan (set p depth k) (depth + 1)
    landed_more lands last i h = by_case (cases_eq i depth)
      where
        by_case : (i ≡ depth) ⊎ (i ≡ depth → ⊥) → Lands rel rule (filled rel plan (set p depth k)) i (place (set p depth k) i)
        by_case (inl e) = subst (λ x. Lands rel rule (filled rel plan (set p depth k)) x (place (set p depth k) x)) (sym e) last
        by_case (inr ne) = filled-lands rel rule plan origins (set p depth k) (filled rel plan p) depth (omega arith) (λ j l. subst (Lands rel rule (filled rel plan p) j) (sym (place_other p depth k j (λ q. omega arith))) (lands j l)) i (omega arith)

  -- a row equal to another need not be tried
  lands_same : (f : ℕ → ℕ) (i k h : ℕ) → h < length rel → get_or rel h [] ≡ get_or rel k [] → Lands rel rule f i k → Lands rel rule f i h
  lands_same f i k h within same lands = record {
    within = within;
    wide = ap length same ∙ lands.wide;
    cells = λ j l. lands.cells j l ∙ ap (λ r. get_or r j 0) (sym same);
  }

  pub tried_all : (P : (ℕ → ℕ) → Type 0) (d : Choices) (depth n : ℕ) (p : List ℕ) → Picks rel d → depth < rule.row_count → choice_count d ≤ n → ((m : ℕ) → m < n → With rel rule depth p (chosen d m) P) → From rel rule depth p P
  tried_all P d depth n p picks within all tried f lands placed =
      let (k, last) = placed depth (omega arith) within in
      let (m, h, same) = picks.each k last.within in
      tried m (omega arith) f lands (lands_same f depth k (chosen d m) (picks.within m h) same last) placed

  -- a relation of another width has no placings
  pub none_placed : (w : ℕ) → 0 < rule.row_count → ((k : ℕ) → k < length rel → length (get_or rel k []) ≡ w) → (w ≡ rule.width → ⊥) → (f : ℕ → ℕ) → ((i : ℕ) → i < rule.row_count → Placed rel rule f i) → ⊥
  none_placed w some wide other f placed =
      let (k, lands) = placed 0 some in
      other (sym (wide k lands.within) ∙ lands.wide)

  -- pairs
  module _ (origins : Origins rule plan) where
    pub joins_here : (depth : ℕ) (p : List ℕ) → depth ≡ rule.row_count → Sound rule → Joins rule (filled rel plan p) → From rel rule depth p (Joins rule)
    joins_here depth p e sound joins f lands placed k h =
        let all : (i : ℕ) → i < rule.row_count → Lands rel rule f i (place p i) = λ i l. lands i (omega arith) in
        filled-stands rel rule plan origins p f all (loaded_pair rule k).0 (sound.ones k h).stands
        ∙ joins k h
        ∙ sym (filled-stands rel rule plan origins p f all (loaded_pair rule k).1 (sound.others k h).stands)

abbrev pub At : List (List ℕ) → LoadedRule → Split → Type 0
At rel rule s = SplitAt rel rule s.places.rows s.difference.pair s.difference.one s.difference.other

-- the first row at its place
pub first-placed : (rel : List (List ℕ)) (rule : LoadedRule) (plan : Plan) → Origins rule plan → (k m : ℕ) → k ≡ m → 0 < rule.row_count → (o : Option Split) → MatchOption o (From rel rule 1 (set (replicate 8 0) 0 k) (Joins rule)) (At rel rule) → MatchOption o (With rel rule 0 (replicate 8 0) m (Joins rule)) (At rel rule)
first-placed rel rule plan origins k m is some None joins = subst (λ x. With rel rule 0 (replicate 8 0) x (Joins rule)) is (tried_next rel rule plan origins 0 k (replicate 8 0) (omega arith) some (Joins rule) joins)
first-placed rel rule plan origins k m is some (Some s) splits = splits

-- each of its places was tried
pub all_placed : (rel : List (List ℕ)) (rule : LoadedRule) (plan : Plan) (d : Choices) (n : ℕ) → Picks rel d → 0 < rule.row_count → choice_count d ≤ n → ((m : ℕ) → m < n → With rel rule 0 (replicate 8 0) (chosen d m) (Joins rule)) → AllJoin rel rule
all_placed rel rule plan d n picks some le tried f placed = tried_all rel rule plan (Joins rule) d 0 n (replicate 8 0) picks some le tried f (λ i h. absurd (omega arith)) (λ i _ h. placed i h)
