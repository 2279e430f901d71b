-- Lemmas: what it says of the words that the walk comes to an end.
-- They stand here, and not in proofs/, because Wells needs them.
use Rattle.std.specs.Prelude.{◌≡◌, ℕ, zero, suc, ◌+◌, ◌-◌, ◌*◌, ◌<◌, ◌≤◌, Bool, true, false, cond, ◌&&◌, List, [], ◌∷◌, length, drop, Ok, Err, ◌==◌, nat_le, nat_lt, slice_index, slice_index_or, refl}
use Rattle.std.proofs.Common.{sym, ap, ◌∙◌, ⊎_elim, arith, length-take}
use Rattle.std.proofs.lemmas.List.{get_or-take, get_or-drop}
use Rattle.std.proofs.lemmas.Bool.{ltb-true, leb-true, eqb-true, and_parts, or_cases, cases_order}
use Rattle.rules.specs.Books.{base}
use Rattle.sheets.specs.Walk.{limit, Out, then, word_in, has, is_entry, is_listed, is_side, each, part, most_left, pair_size, pair_want, rule_end}
use Rattle.sheets.specs.Reads.{left_place, pair_place, end_of}
use Rattle.sheets.specs.Facts.{Whole}
use Rattle.rules.specs.declared.fault.BookFault.{BookFault}

pub clash : {X : Type 0} (f : BookFault) (x : X) → ◌≡◌ {A = Out X} (Err f) (Ok x) → ⊥
clash f x e = let z : ◌≡◌ {A = ℕ} 0 1 = cc in omega arith

pub cond_ok : {X : Type 0} (b : Bool) (o : Out X) (f : BookFault) (x : X) → cond b o (Err f) ≡ Ok x → (b ≡ true) × (o ≡ Ok x)
cond_ok true o f x e = (refl, e)
cond_ok false o f x e = absurd (clash f x e)

pub then_ok : {X Y : Type 0} (o : Out X) (f : X → Out Y) (y : Y) → then o f ≡ Ok y → (x : X) × (o ≡ Ok x) × (f x ≡ Ok y)
then_ok (Ok x) f y e = (x, refl, e)
then_ok (Err z) f y e = absurd (clash z y e)

pub word_ok : {Y : Type 0} (low high : ℕ) (words : List ℕ) (at : ℕ) (f : ℕ → Out Y) (y : Y) → then (word_in low high words at) f ≡ Ok y → (at < length words) × (low ≤ slice_index words at) × (slice_index words at ≤ high) × (f (slice_index words at) ≡ Ok y)
word_ok low high words at f y e =
    let t = then_ok (word_in low high words at) f y e in
    let s = cond_ok (nat_lt at (length words) && (nat_le low (slice_index words at) && nat_le (slice_index words at) high)) (Ok (slice_index words at)) (record { place = at }) t.0 t.1 in
    let a = and_parts (nat_lt at (length words)) (nat_le low (slice_index words at) && nat_le (slice_index words at) high) s.0 in
    let b = and_parts (nat_le low (slice_index words at)) (nat_le (slice_index words at) high) a.1 in
    let same : slice_index_or words at 0 ≡ t.0 = cc in
    (ltb-true _ _ a.0, leb-true _ _ b.0, leb-true _ _ b.1, ap f same ∙ t.2)

module _ (test : ℕ → Bool) (words : List ℕ) where
  abbrev pub AllPass : ℕ → ℕ → Type 0
  AllPass from to = (p : ℕ) → from ≤ p → p < to → test (slice_index words p) ≡ true

  pub each_is : (n at e : ℕ) → each test words n at ≡ Ok e → at ≤ length words → (e ≡ at + n) × (at + n ≤ length words) × AllPass at (at + n)
  each_is zero at e h le = let s : at ≡ e = cc in (omega arith, omega arith, λ p a b. absurd (omega arith))
  each_is (suc n) at e h le =
      let t = cond_ok (nat_lt at (length words) && test (slice_index words at)) (each test words n (at + 1)) (record { place = at }) e h in
      let a = and_parts (nat_lt at (length words)) (test (slice_index words at)) t.0 in
      let l : at < length words = ltb-true _ _ a.0 in
      let r = each_is n (at + 1) e t.1 (omega arith) in
      (omega arith, omega arith, λ p from to. ⊎_elim (λ q. let s : p ≡ at = q in rw s a.1) (λ q. ⊎_elim (λ lt. absurd (omega arith)) (λ lt. r.2 p (omega arith) (omega arith)) q) (cases_order p at))

  pub each_ok : {Y : Type 0} (n at : ℕ) (f : ℕ → Out Y) (y : Y) → then (each test words n at) f ≡ Ok y → at ≤ length words → (at + n ≤ length words) × AllPass at (at + n) × (f (at + n) ≡ Ok y)
  each_ok n at f y e le =
      let t = then_ok (each test words n at) f y e in
      let r = each_is n at t.0 t.1 le in
      (r.1, r.2, ap f (sym r.0) ∙ t.2)

-- the words of the rows are small, and so is each word that is one of them
pub has_below : (xs : List ℕ) (b w : ℕ) → ((k : ℕ) → k < length xs → slice_index xs k < b) → has xs w ≡ true → w < b
has_below [] b w h e = absurd (let z : ◌≡◌ {A = ℕ} 0 1 = cc in omega arith)
has_below (x ∷ xs) b w h e =
    ⊎_elim (λ q. omega (arith, eqb-true x w q, h 0 (omega arith))) (λ q. has_below xs b w (λ k l. h (suc k) (omega arith)) q) (or_cases (x == w) (has xs w) e)

pub part_below : (words : List ℕ) (from to b : ℕ) → ((p : ℕ) → from ≤ p → p < to → slice_index words p < b) → (k : ℕ) → k < length (part words from to) → slice_index (part words from to) k < b
part_below words from to b h k l =
    let n : k < to - from = omega (arith, length-take (to - from) (drop from words)) in
    rw (get_or-take (to - from) (drop from words) k 0 n, get_or-drop from words k 0) (h (from + k) (omega arith) (omega arith))

pub entry_below : (w : ℕ) → is_entry w ≡ true → w < limit
entry_below w e = ltb-true w limit e

pub listed_below : (rows : List ℕ) (w : ℕ) → ((k : ℕ) → k < length rows → slice_index rows k < limit) → is_listed rows w ≡ true → w < limit
listed_below rows w h e = has_below rows limit w h (and_parts (nat_le base w) (has rows w) e).1

pub pair_below : (b : Bool) (rows : List ℕ) (w : ℕ) → ((k : ℕ) → k < length rows → slice_index rows k < limit) → cond b (is_listed rows) (is_side rows) w ≡ true → w < limit
pair_below true rows w h e = listed_below rows w h e
pair_below false rows w h e = ⊎_elim (λ q. omega (arith, ltb-true w base q)) (has_below rows limit w h) (or_cases (nat_lt w base) (has rows w) e)

pub whole_from : (words : List ℕ) (width at e : ℕ) → width ≤ 8 → rule_end words width at ≡ Ok e → (e ≡ end_of words width at) × Whole words width at
unfolding left_place pair_place end_of
whole_from words width at e narrow h =
    let w = slice_index_or words in
    let k = word_ok 1 2 words at _ e h in
    let n = word_ok 1 4 words (at + 1) _ e k.3 in
    let left = at + 2 + w (at + 1) 0 * width in
    let rows = part words (at + 2) left in
    let t = each_ok is_entry words (w (at + 1) 0 * width) (at + 2) _ e n.3 (omega arith) in
    let l = word_ok 0 (most_left (w at 0)) words left _ e t.2 in
    let v = each_ok (is_listed rows) words (w left 0) (left + 1) _ e l.3 (omega arith) in
    let next = left + 1 + w left 0 in
    let c = word_ok 0 32 words next _ e v.2 in
    let s = each_is (pair_want (w at 0) rows) words (w next 0 * pair_size (w at 0)) (next + 1) e c.3 (omega arith) in
    let below = part_below words (at + 2) left limit (λ p a b. ltb-true _ _ (t.1 p a b)) in (
      s.0,
      record {
        narrow = narrow;
        left_is = refl;
        pair_is = refl;
        end_is = refl;
        inside = s.1;
        some_kind = k.1;
        few_kinds = k.2;
        some_row = n.1;
        few_rows = n.2;
        entries = λ p a b. entry_below (w p 0) (t.1 p a b);
        few_left = l.2;
        lefts = v.1;
        lefts_from = λ p a b. leb-true _ _ (and_parts (nat_le base (w p 0)) (has rows (w p 0)) (v.1 p a b)).0;
        lefts_below = λ p a b. listed_below rows (w p 0) below (v.1 p a b);
        few_pairs = c.2;
        sides = s.2;
        sides_below = λ p a b. pair_below ((w at 0) == 1) rows (w p 0) below (s.2 p a b);
      },
    )
