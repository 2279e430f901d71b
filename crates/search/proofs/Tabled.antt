-- A table of placings with one more.
use Rattle.std.proofs.Common.{◌≡◌, ℕ, zero, suc, ◌+◌, ◌-◌, ◌/◌, ◌^◌, ◌<◌, ◌≤◌, ◌⊎◌, List, length, get_or, set, sym, refl, ap, ◌∙◌, subst, inl, inr, arith}
use Rattle.std.proofs.lemmas.List.{get_or-set_same, get_or-set_other}
use Rattle.std.proofs.lemmas.Bool.{cases_eq, cases_lt}
use Rattle.rules.specs.Loaded.{loaded_pair}
use Rattle.search.specs.Placings.{filled, left_term, Landed, SameLeft, SameRight}
use Rattle.rules.specs.Rules.{at}
use Rattle.search.specs.Seens.{entry, no_placing, mix, hashed, bucket, Link, Linked, Walk, Fine, New, Went, Covered}
use Rattle.rules.specs.declared.loaded.LoadedRule.{LoadedRule}
use Rattle.search.specs.declared.plan.Plan.{Plan}
use Rattle.search.specs.declared.seen.Placing.{Placing}
use Rattle.search.specs.declared.seen.Seen.{Seen}

abbrev pub one_more : Seen → Placing → ℕ → Seen
one_more seen p b = record {
  placings = set seen.placings seen.used p;
  next = set seen.next seen.used (get_or seen.heads b 0);
  heads = set seen.heads b (seen.used + 1);
  used = seen.used + 1;
}

module _ (rel : List (List ℕ)) (rule : LoadedRule) (plan : Plan) where
  pub hash_bucket : (p : List ℕ) (n h : ℕ) → h ≡ hashed rel rule plan p n → n ≡ rule.left_count → h / 2 ^ 54 ≡ bucket rel rule plan p
  unfolding bucket
  hash_bucket p n h e all = ap (λ x. x / 2 ^ 54) (e ∙ ap (hashed rel rule plan p) all)

  left_at : (x y u w : List ℕ) → x ≡ u → y ≡ w → SameLeft rule (filled rel plan x) (filled rel plan y) → SameLeft rule (filled rel plan u) (filled rel plan w)
  left_at x y u w a b same = subst (λ z. SameLeft rule (filled rel plan u) (filled rel plan z)) b (subst (λ z. SameLeft rule (filled rel plan z) (filled rel plan y)) a same)

  right_at : (x y u w : List ℕ) → x ≡ u → y ≡ w → SameRight rule (filled rel plan x) (filled rel plan y) → SameRight rule (filled rel plan u) (filled rel plan w)
  right_at x y u w a b same = subst (λ z. SameRight rule (filled rel plan u) (filled rel plan z)) b (subst (λ z. SameRight rule (filled rel plan z) (filled rel plan y)) a same)

  -- equal left numbers have one bucket
  same_hash : (p q : List ℕ) (n : ℕ) → n ≤ rule.left_count → SameLeft rule (filled rel plan p) (filled rel plan q) → hashed rel rule plan p n ≡ hashed rel rule plan q n
  same_hash p q zero le same = refl
  same_hash p q (suc n) le same =
      ap (λ h. mix h (at (filled rel plan p) (left_term rule n))) (same_hash p q n (omega arith) same)
      ∙ ap (mix (hashed rel rule plan q n)) (same n (omega arith))

  pub same_bucket : (p q : List ℕ) → SameLeft rule (filled rel plan p) (filled rel plan q) → bucket rel rule plan p ≡ bucket rel rule plan q
  unfolding bucket
  same_bucket p q same = ap (λ h. h / 2 ^ 54) (same_hash p q rule.left_count (omega arith) same)

  -- the walk along a bucket
  pub walk_start : (seen : Seen) (p : List ℕ) (b : ℕ) → b < 1024 → Fine rel rule plan seen → Walk rel rule plan seen p b (get_or seen.heads b 0)
  walk_start seen p b h fine = let link = fine.linked.heads b h in record {
    low = link.low;
    in_bucket = link.in_bucket;
    past = λ e l c q _. absurd (omega (arith, link.last e l q));
  }

  pub walk_step : (seen : Seen) (p : List ℕ) (b c : ℕ) → Fine rel rule plan seen → 0 < c → Walk rel rule plan seen p b c → (SameLeft rule (filled rel plan (entry seen (c - 1))) (filled rel plan p) → ⊥) → Walk rel rule plan seen p b (get_or seen.next (c - 1) 0)
  walk_step seen p b c fine some walk other =
      let link = fine.linked.nexts (c - 1) (omega (arith, walk.low)) in
      let here = walk.in_bucket some in
      record {
        low = omega (arith, link.low, walk.low);
        in_bucket = λ h. link.in_bucket h ∙ here;
        past = λ e l d q. past link here e l d q (cases_lt e (c - 1)) (cases_eq e (c - 1));
      }
    where
      past : Link rel rule plan seen (bucket rel rule plan (entry seen (c - 1))) (c - 1) (get_or seen.next (c - 1) 0) → bucket rel rule plan (entry seen (c - 1)) ≡ b
          → (e : ℕ) → e < seen.used → get_or seen.next (c - 1) 0 ≤ e → bucket rel rule plan (entry seen e) ≡ b → (e < c - 1) ⊎ (c - 1 ≤ e) → (e ≡ c - 1) ⊎ (e ≡ c - 1 → ⊥) → SameLeft rule (filled rel plan (entry seen e)) (filled rel plan p) → ⊥
      past link here e l d q (inl less) _ same = absurd (omega (arith, link.last e less (q ∙ sym here)))
      past link here e l d q (inr more) (inl is) same = other (subst (λ x. SameLeft rule (filled rel plan (entry seen x)) (filled rel plan p)) is same)
      past link here e l d q (inr more) (inr not) same = walk.past e l (omega arith) q same

  pub walk_end : (seen : Seen) (p : List ℕ) (b c : ℕ) → c ≤ 0 → b ≡ bucket rel rule plan p → Walk rel rule plan seen p b c → New rel rule plan seen p
  walk_end seen p b c none home walk e h same = walk.past e h (omega arith) (same_bucket (entry seen e) p same ∙ sym home) same

  module _ (seen : Seen) (p : Placing) (b : ℕ) (long : length seen.placings ≡ 4096) (long-next : length seen.next ≡ 4096) (long-heads : length seen.heads ≡ 1024) (room : seen.used < 4096) (home : b < 1024) where
    old_entry : (e : ℕ) → e < seen.used → entry (one_more seen p b) e ≡ entry seen e
    old_entry e h = ap (λ x. x.rows) (get_or-set_other seen.placings seen.used e p no_placing (λ q. omega arith))

    new_entry : (e : ℕ) → e ≡ seen.used → entry (one_more seen p b) e ≡ p.rows
    new_entry e q = ap (entry (one_more seen p b)) q ∙ ap (λ x. x.rows) (get_or-set_same seen.placings seen.used p no_placing (omega arith))

    more_lands : Fine rel rule plan seen → Landed rel rule plan p.rows rule.row_count → (e : ℕ) → e < seen.used + 1 → Landed rel rule plan (entry (one_more seen p b) e) rule.row_count
    more_lands fine lands e h = by_case (cases_eq e seen.used)
      where
        by_case : (e ≡ seen.used) ⊎ (e ≡ seen.used → ⊥) → Landed rel rule plan (entry (one_more seen p b) e) rule.row_count
        by_case (inl q) = subst (λ x. Landed rel rule plan x rule.row_count) (sym (new_entry e q)) lands
        by_case (inr ne) = subst (λ x. Landed rel rule plan x rule.row_count) (sym (old_entry e (omega arith))) (fine.lands e (omega arith))

    more_apart : Fine rel rule plan seen → New rel rule plan seen p.rows → (a z : ℕ) → a < seen.used + 1 → z < seen.used + 1
        → SameLeft rule (filled rel plan (entry (one_more seen p b) a)) (filled rel plan (entry (one_more seen p b) z)) → SameRight rule (filled rel plan (entry (one_more seen p b) a)) (filled rel plan (entry (one_more seen p b) z))
    more_apart fine new a z ha hb same = by_case (cases_eq a seen.used) (cases_eq z seen.used)
      where
        by_case : (a ≡ seen.used) ⊎ (a ≡ seen.used → ⊥) → (z ≡ seen.used) ⊎ (z ≡ seen.used → ⊥) → SameRight rule (filled rel plan (entry (one_more seen p b) a)) (filled rel plan (entry (one_more seen p b) z))
        by_case (inl q) (inl r) = λ k h. ap (λ x. at (filled rel plan (entry (one_more seen p b) x)) (loaded_pair rule k).0) (q ∙ sym r)
        by_case (inl q) (inr n) = absurd (new z (omega arith) (λ l h. sym (left_at _ _ _ _ (new_entry a q) (old_entry z (omega arith)) same l h)))
        by_case (inr m) (inl r) = absurd (new a (omega arith) (left_at _ _ _ _ (old_entry a (omega arith)) (new_entry z r) same))
        by_case (inr m) (inr n) =
            let ea = old_entry a (omega arith) in
            let eb = old_entry z (omega arith) in
            right_at _ _ _ _ (sym ea) (sym eb) (fine.apart a z (omega arith) (omega arith) (left_at _ _ _ _ ea eb same))

    link_keep : (x n c : ℕ) → n ≤ seen.used → Link rel rule plan seen x n c → Link rel rule plan (one_more seen p b) x n c
    link_keep x n c le link = record {
      low = link.low;
      in_bucket = λ h. ap (bucket rel rule plan) (old_entry (c - 1) (omega (arith, link.low))) ∙ link.in_bucket h;
      last = λ e h q. link.last e h (sym (ap (bucket rel rule plan) (old_entry e (omega arith))) ∙ q);
    }

    -- a bucket that does not get the new one
    link_more : (x c : ℕ) → (bucket rel rule plan p.rows ≡ x → ⊥) → Link rel rule plan seen x seen.used c → Link rel rule plan (one_more seen p b) x (seen.used + 1) c
    link_more x c other link = record {
      low = omega (arith, link.low);
      in_bucket = (link_keep x seen.used c (omega arith) link).in_bucket;
      last = λ e h q. last e h q (cases_eq e seen.used);
    }
      where
        last : (e : ℕ) → e < seen.used + 1 → bucket rel rule plan (entry (one_more seen p b) e) ≡ x → (e ≡ seen.used) ⊎ (e ≡ seen.used → ⊥) → e < c
        last e h q (inl is) = absurd (other (sym (ap (bucket rel rule plan) (new_entry e is)) ∙ q))
        last e h q (inr not) = (link_keep x seen.used c (omega arith) link).last e (omega arith) q

    -- the one that does
    link_new : b ≡ bucket rel rule plan p.rows → Link rel rule plan (one_more seen p b) b (seen.used + 1) (seen.used + 1)
    link_new is = record {
      low = omega arith;
      in_bucket = λ h. ap (bucket rel rule plan) (new_entry (seen.used + 1 - 1) (omega arith)) ∙ sym is;
      last = λ e h q. h;
    }

    more_linked : b ≡ bucket rel rule plan p.rows → Linked rel rule plan seen → Linked rel rule plan (one_more seen p b)
    more_linked is linked = record {
      heads = λ x h. head x h (cases_eq x b);
      nexts = λ k h. next k h (cases_eq k seen.used);
    }
      where
        head : (x : ℕ) → x < 1024 → (x ≡ b) ⊎ (x ≡ b → ⊥) → Link rel rule plan (one_more seen p b) x (seen.used + 1) (get_or (set seen.heads b (seen.used + 1)) x 0)
        head x h (inl q) = subst (λ y. Link rel rule plan (one_more seen p b) y (seen.used + 1) (get_or (set seen.heads b (seen.used + 1)) y 0)) (sym q) (subst (Link rel rule plan (one_more seen p b) b (seen.used + 1)) (sym (get_or-set_same seen.heads b (seen.used + 1) 0 (omega arith))) (link_new is))
        head x h (inr ne) = subst (Link rel rule plan (one_more seen p b) x (seen.used + 1)) (sym (get_or-set_other seen.heads b x (seen.used + 1) 0 ne)) (link_more x (get_or seen.heads x 0) (λ q. ne (sym q ∙ sym is)) (linked.heads x h))

        next : (k : ℕ) → k < seen.used + 1 → (k ≡ seen.used) ⊎ (k ≡ seen.used → ⊥) → Link rel rule plan (one_more seen p b) (bucket rel rule plan (entry (one_more seen p b) k)) k (get_or (set seen.next seen.used (get_or seen.heads b 0)) k 0)
        next k h (inl q) =
            subst (λ y. Link rel rule plan (one_more seen p b) (bucket rel rule plan (entry (one_more seen p b) y)) y (get_or (set seen.next seen.used (get_or seen.heads b 0)) y 0)) (sym q)
            (subst (λ x. Link rel rule plan (one_more seen p b) x seen.used (get_or (set seen.next seen.used (get_or seen.heads b 0)) seen.used 0)) (is ∙ sym (ap (bucket rel rule plan) (new_entry seen.used refl)))
            (subst (Link rel rule plan (one_more seen p b) b seen.used) (sym (get_or-set_same seen.next seen.used (get_or seen.heads b 0) 0 (omega arith))) (link_keep b seen.used (get_or seen.heads b 0) (omega arith) (linked.heads b home))))
        next k h (inr ne) =
            subst (λ x. Link rel rule plan (one_more seen p b) x k (get_or (set seen.next seen.used (get_or seen.heads b 0)) k 0)) (ap (bucket rel rule plan) (sym (old_entry k (omega arith))))
            (subst (Link rel rule plan (one_more seen p b) (bucket rel rule plan (entry seen k)) k) (sym (get_or-set_other seen.next seen.used k (get_or seen.heads b 0) 0 ne)) (link_keep (bucket rel rule plan (entry seen k)) k (get_or seen.next k 0) (omega arith) (linked.nexts k (omega arith))))

    pub add-went : b ≡ bucket rel rule plan p.rows → Fine rel rule plan seen → Landed rel rule plan p.rows rule.row_count → New rel rule plan seen p.rows → Went rel rule plan seen (one_more seen p b) 1
    add-went is fine lands new = record {
      fine = record { room = omega arith; linked = more_linked is fine.linked; lands = more_lands fine lands; apart = more_apart fine new };
      grows = record { more = omega arith; kept = old_entry };
      little = omega arith;
    }

    pub add-covered : Covered rel rule plan (one_more seen p b) (filled rel plan p.rows)
    add-covered = (seen.used, omega arith, (λ l h. ap (λ x. at (filled rel plan x) (left_term rule l)) (sym (new_entry seen.used refl))), (λ r h. ap (λ x. at (filled rel plan x) (loaded_pair rule r).0) (sym (new_entry seen.used refl))))
