-- The steps of the search that groups placings by their left numbers.
use Rattle.std.proofs.Common.{◌≡◌, ℕ, suc, ◌+◌, ◌-◌, ◌*◌, ◌^◌, ◌<◌, ◌≤◌, List, length, get_or, set, replicate, Some, None, Option, sym, refl, ap, ◌∙◌, subst, mul-le-mul_right, suc-mul, arith, below_more, MatchOption}
use native.Mathlib.Nat.{pow-zero, pow-succ', pow-le-pow_left, pow-le-pow_right}
use Rattle.rules.specs.declared.loaded.LoadedRule.{LoadedRule}
use Rattle.rules.specs.Loaded.{loaded_pair}
use Rattle.rules.specs.Rules.{at}
use Rattle.search.specs.declared.plan.Plan.{Plan}
use Rattle.search.specs.declared.choices.Choices.{Choices}
use Rattle.search.specs.declared.seen.Seen.{Seen}
use Rattle.search.specs.declared.seen.Parting.{Parting}
use Rattle.search.specs.Placings.{choice_count, filled, left_term, place, Lands, Landed, Origins, Groupable, SameLeft, SameRight, SameSides, AllAgree, With, Bounded, choices, Picks, chosen}
use Rattle.search.specs.Seens.{Fine, Grows, Went, Covered, Covers, Tried, Turn, PartingAt}
use Rattle.search.proofs.Plans.{filled-early, filled-stands}
use Rattle.search.proofs.Walks.{place_other, tried_clash, tried_next, tried_all}

module _ (rel : List (List ℕ)) (rule : LoadedRule) (plan : Plan) where
  pub went_none : (seen : Seen) → Fine rel rule plan seen → Went rel rule plan seen seen 0
  went_none seen fine = record { fine = fine; grows = record { more = omega arith; kept = λ e h. refl }; little = omega arith }

  pub went_most : (s t : Seen) (m n : ℕ) → Went rel rule plan s t m → m ≤ n → Went rel rule plan s t n
  went_most s t m n went le = record { fine = went.fine; grows = went.grows; little = omega (arith, went.little) }

  pub went_on : (s t u : Seen) (m n : ℕ) → Went rel rule plan s t m → Went rel rule plan t u n → Went rel rule plan s u (m + n)
  went_on s t u m n one two = record {
    fine = two.fine;
    grows = record { more = omega (arith, one.grows.more, two.grows.more); kept = λ e h. two.grows.kept e (omega (arith, one.grows.more)) ∙ one.grows.kept e h };
    little = omega (arith, one.little, two.little);
  }

  grow_covered : (s t : Seen) (f : ℕ → ℕ) → Grows s t → Covered rel rule plan s f → Covered rel rule plan t f
  grow_covered s t f grows (e, h, l, r) = (
    e,
    omega (arith, grows.more),
    subst (λ x. SameLeft rule f (filled rel plan x)) (sym (grows.kept e h)) l,
    subst (λ x. SameRight rule f (filled rel plan x)) (sym (grows.kept e h)) r,
  )

  pub grow_tried : (s t : Seen) (depth : ℕ) (p : List ℕ) (k : ℕ) → Grows s t → Tried rel rule plan s depth p k → Tried rel rule plan t depth p k
  grow_tried s t depth p k grows tried f lands by_case placed = grow_covered s t f grows (tried f lands by_case placed)

  -- a right variable is both sides of its pair
  pub right_sides : {D : Type 0} (f g : ℕ → ℕ) (P : D → Type 0) → Groupable rule → (o : Option D) → MatchOption o (SameSides rule f g) P → MatchOption o (SameRight rule f g) P
  right_sides f g P groupable None same = λ k h. same k h ∙ ap (at g) (sym (groupable.twice k h))
  right_sides f g P groupable (Some d) parts = parts

  pub fine_empty : (seen : Seen) → seen.used ≡ 0 → ((b : ℕ) → b < 1024 → get_or seen.heads b 0 ≡ 0) → Fine rel rule plan seen
  fine_empty seen none heads = record {
    room = omega arith;
    linked = record {
      heads = λ b h. record { low = omega (arith, heads b h); in_bucket = λ l. absurd (omega (arith, heads b h)); last = λ e l q. absurd (omega arith) };
      nexts = λ k h. absurd (omega arith);
    };
    lands = λ e h. absurd (omega arith);
    apart = λ a b ha hb. absurd (omega arith);
  }

  -- once all choices are covered by a table that does not break the rule
  pub keeps_all : (seen : Seen) (p : List ℕ) → Fine rel rule plan seen → Covers rel rule plan seen 0 p → AllAgree rel rule
  keeps_all seen p fine covers f g pf pg same r h =
      let (a, ha, la, ra) = covers f (λ i l. absurd (omega arith)) (λ i _ l. pf i l) in
      let (b, hb, lb, rb) = covers g (λ i l. absurd (omega arith)) (λ i _ l. pg i l) in
      ra r h ∙ fine.apart a b ha hb (λ l k. sym (la l k) ∙ same l k ∙ lb l k) r h ∙ sym (rb r h)

  module _ (origins : Origins rule plan) where
    pub covers_here : (seen : Seen) (depth : ℕ) (p : List ℕ) → depth ≡ rule.row_count → Groupable rule → Covered rel rule plan seen (filled rel plan p) → Covers rel rule plan seen depth p
    covers_here seen depth p e sound (x, h, l, r) f lands placed =
        let all : (i : ℕ) → i < rule.row_count → Lands rel rule f i (place p i) = λ i k. lands i (omega arith) in
        (x, h, (λ k hk. filled-stands rel rule plan origins p f all (left_term rule k) (sound.lefts k hk).stands ∙ l k hk), (λ k hk. filled-stands rel rule plan origins p f all (loaded_pair rule k).0 (sound.sound.ones k hk).stands ∙ r k hk))

    -- a placing of the table with these left and right numbers covers all that goes on from here
    pub covers_early : (seen : Seen) (n depth : ℕ) (p : List ℕ) → Bounded rule n → n ≤ depth → Covered rel rule plan seen (filled rel plan p) → Covers rel rule plan seen depth p
    covers_early seen n depth p bounded le (x, h, l, r) f lands placed =
        let early : (i : ℕ) → i < n → Lands rel rule f i (place p i) = λ i k. lands i (omega arith) in
        (x, h, (λ k hk. filled-early rel rule plan origins p f n bounded.few early (left_term rule k) (bounded.lefts k hk) ∙ l k hk), (λ k hk. filled-early rel rule plan origins p f n bounded.few early (loaded_pair rule k).0 (bounded.rights k hk) ∙ r k hk))

    module _ (depth k : ℕ) (p : List ℕ) (within : depth < rule.row_count) where
      -- one placing of the last row covers all, where no left or right code needs that row
      pub covers_last : (seen : Seen) (n : ℕ) → Bounded rule n → n ≤ depth → depth + 1 ≡ rule.row_count → Landed rel rule plan (set p depth k) (depth + 1) → Covers rel rule plan seen (depth + 1) (set p depth k) → Covers rel rule plan seen depth p
      covers_last seen n bounded le last landed covers f lands placed =
          let (x, h, l, r) = covers (filled rel plan (set p depth k)) landed (λ i low high. absurd (omega arith)) in
          let early : (i : ℕ) → i < n → Lands rel rule f i (place (set p depth k) i) = λ i hi. subst (Lands rel rule f i) (sym (place_other p depth k i (λ q. omega arith))) (lands i (omega arith)) in
          (x, h, (λ c hc. filled-early rel rule plan origins (set p depth k) f n bounded.few early (left_term rule c) (bounded.lefts c hc) ∙ l c hc), (λ c hc. filled-early rel rule plan origins (set p depth k) f n bounded.few early (loaded_pair rule c).0 (bounded.rights c hc) ∙ r c hc))

  module _ (d : Choices) where
    -- how many choices are left
    pub choices-end : (depth : ℕ) → depth ≡ rule.row_count → choices d rule depth ≡ 1
    choices-end depth e = let z : rule.row_count - depth ≡ 0 = omega arith in ap (λ x. (choice_count d) ^ x) z ∙ pow-zero (choice_count d)

    pub choices-step : (depth : ℕ) → depth < rule.row_count → choices d rule depth ≡ (choice_count d) * choices d rule (depth + 1)
    choices-step depth h = let z : rule.row_count - depth ≡ suc (rule.row_count - (depth + 1)) = omega arith in ap (λ x. (choice_count d) ^ x) z ∙ pow-succ' (choice_count d) (rule.row_count - (depth + 1))

    pub row_step : (row m : ℕ) → row * m + m ≡ (row + 1) * m
    row_step row m = let z : row + 1 ≡ suc row = omega arith in sym (ap (λ x. x * m) z ∙ suc-mul row m)

    pub row_room : (row n m : ℕ) → row < n → row * m + m ≤ n * m
    row_room row n m h = subst (λ x. x ≤ n * m) (sym (row_step row m)) (mul-le-mul_right m (omega arith))

    pub choices-all : rule.row_count ≤ 4 → (choice_count d) ≤ 8 → choices d rule 0 ≤ 4096
    choices-all four few =
        let a : (choice_count d) ^ (rule.row_count - 0) ≤ 8 ^ (rule.row_count - 0) = pow-le-pow_left few (rule.row_count - 0) in
        let b : 8 ^ (rule.row_count - 0) ≤ 8 ^ 4 = pow-le-pow_right {n = 8} (omega arith) {i = rule.row_count - 0} {j = 4} (omega arith) in
        omega (arith, a, b)

    pub settle-covers : (o : Option Parting) (s t : Seen) (depth : ℕ) (p : List ℕ) → Origins rule plan → depth ≡ rule.row_count → Groupable rule
        → MatchOption o (Went rel rule plan s t 1 × Covered rel rule plan t (filled rel plan p)) (PartingAt rel rule)
        → MatchOption o (Went rel rule plan s t (choices d rule depth) × Covers rel rule plan t depth p) (PartingAt rel rule)
    settle-covers None s t depth p origins e sound (went, covered) = (went_most s t 1 (choices d rule depth) went (omega (arith, choices-end depth e)), covers_here origins t depth p e sound covered)
    settle-covers (Some spot) s t depth p origins e sound breaks = breaks

    pub turn_none : (s : Seen) (depth : ℕ) (p : List ℕ) → Fine rel rule plan s → Turn rel rule plan d s s depth p 0
    turn_none s depth p fine = (went_most s s 0 (0 * choices d rule (depth + 1)) (went_none s fine) (omega arith), λ k h. absurd (omega arith))

    pub turn_all : (s t : Seen) (depth n : ℕ) (p : List ℕ) → Picks rel d → depth < rule.row_count → n ≡ (choice_count d) → Turn rel rule plan d s t depth p n → Went rel rule plan s t (choices d rule depth) × Covers rel rule plan t depth p
    turn_all s t depth n p picks within all (went, tried) = (subst (Went rel rule plan s t) (ap (λ x. x * choices d rule (depth + 1)) all ∙ sym (choices-step depth within)) went, tried_all rel rule plan (Covered rel rule plan t) d depth n p picks within (omega arith) tried)

    pub turn_room : (s t : Seen) (depth n : ℕ) (p : List ℕ) → depth < rule.row_count → n < (choice_count d) → Turn rel rule plan d s t depth p n → s.used + choices d rule depth ≤ 4096 → t.used + choices d rule (depth + 1) ≤ 4096
    turn_room s t depth n p within more (went, tried) room = omega (arith, went.little, room, choices-step depth within, row_room n (choice_count d) (choices d rule (depth + 1)) more)

    module _ (origins : Origins rule plan) (s t : Seen) (depth row k : ℕ) (p : List ℕ) (is : k ≡ chosen d row) (long : depth < length p) (within : depth < rule.row_count) where
      pub turn_clash : Turn rel rule plan d s t depth p row → (Lands rel rule (filled rel plan (set p depth k)) depth (place (set p depth k) depth) → ⊥) → Turn rel rule plan d s t depth p (row + 1)
      turn_clash (went, tried) clash = (
        went_most s t (row * choices d rule (depth + 1)) ((row + 1) * choices d rule (depth + 1)) went (omega (arith, row_step row (choices d rule (depth + 1)))),
        below_more _ _ tried (subst (λ x. With rel rule depth p x (Covered rel rule plan t)) is (tried_clash rel rule plan origins depth k p long within (Covered rel rule plan t) clash)),
      )

      pub turn_last : (u : Seen) (n : ℕ) → row < (choice_count d) → Bounded rule n → n ≤ depth → depth + 1 ≡ rule.row_count → Turn rel rule plan d s t depth p row → Landed rel rule plan (set p depth k) (depth + 1)
          → Went rel rule plan t u (choices d rule (depth + 1)) × Covers rel rule plan u (depth + 1) (set p depth k) → Went rel rule plan s u (choices d rule depth) × Covers rel rule plan u depth p
      turn_last u n inside bounded le last (went, tried) landed (more, covers) = (
        went_most s u (row * choices d rule (depth + 1) + choices d rule (depth + 1)) (choices d rule depth) (went_on s t u (row * choices d rule (depth + 1)) (choices d rule (depth + 1)) went more) (omega (arith, choices-step depth within, row_room row (choice_count d) (choices d rule (depth + 1)) inside)),
        covers_last origins depth k p within u n bounded le last landed covers,
      )

      pub turn_next : (u : Seen) → Turn rel rule plan d s t depth p row → Went rel rule plan t u (choices d rule (depth + 1)) × Covers rel rule plan u (depth + 1) (set p depth k) → Turn rel rule plan d s u depth p (row + 1)
      turn_next u (went, tried) (more, covers) = (
        subst (Went rel rule plan s u) (row_step row (choices d rule (depth + 1))) (went_on s t u (row * choices d rule (depth + 1)) (choices d rule (depth + 1)) went more),
        below_more _ _ (λ m h. grow_tried t u depth p (chosen d m) more.grows (tried m h)) (subst (λ x. With rel rule depth p x (Covered rel rule plan u)) is (tried_next rel rule plan origins depth k p long within (Covered rel rule plan u) covers)),
      )

-- the first row at its place
pub first-grouped : (rel : List (List ℕ)) (rule : LoadedRule) (plan : Plan) (d : Choices) → Origins rule plan → (s t : Seen) (k m : ℕ) → k ≡ m → 0 < rule.row_count → (o : Option Parting)
    → MatchOption o (Went rel rule plan s t (choices d rule 1) × Covers rel rule plan t 1 (set (replicate 4 0) 0 k)) (PartingAt rel rule)
    → MatchOption o (Went rel rule plan s t (choices d rule 1) × Tried rel rule plan t 0 (replicate 4 0) m) (PartingAt rel rule)
first-grouped rel rule plan d origins s t k m is some None (went, covers) = (went, subst (λ x. With rel rule 0 (replicate 4 0) x (Covered rel rule plan t)) is (tried_next rel rule plan origins 0 k (replicate 4 0) (omega arith) some (Covered rel rule plan t) covers))
first-grouped rel rule plan d origins s t k m is some (Some p) by_case = by_case

module _ (rel : List (List ℕ)) (rule : LoadedRule) (plan : Plan) (d : Choices) where
  -- one more choice for the first row was tried
  pub turn_first : (s t u : Seen) (m : ℕ) → Turn rel rule plan d s t 0 (replicate 4 0) m → Went rel rule plan t u (choices d rule 1) × Tried rel rule plan u 0 (replicate 4 0) (chosen d m) → Turn rel rule plan d s u 0 (replicate 4 0) (m + 1)
  turn_first s t u m (went, tried) (more, last) = (
    subst (Went rel rule plan s u) (row_step rel rule plan d m (choices d rule 1)) (went_on rel rule plan s t u (m * choices d rule 1) (choices d rule 1) went more),
    below_more _ _ (λ k h. grow_tried rel rule plan t u 0 (replicate 4 0) (chosen d k) more.grows (tried k h)) last,
  )

  -- each of its places was tried
  pub all_grouped : (s t : Seen) (n : ℕ) → Picks rel d → 0 < rule.row_count → (choice_count d) ≤ n → Turn rel rule plan d s t 0 (replicate 4 0) n → AllAgree rel rule
  all_grouped s t n picks some le (went, tried) = keeps_all rel rule plan t (replicate 4 0) went.fine (tried_all rel rule plan (Covered rel rule plan t) d 0 n (replicate 4 0) picks some le tried)
