-- The check tells the first fault.
use Rattle.std.proofs.Common.{◌≡◌, ℕ, zero, suc, ◌+◌, ◌/◌, ◌%◌, ◌^◌, ◌<◌, ◌≤◌, Bool, true, false, cond, ◌||◌, eqb, ltb, leb, ◌⊎◌, List, [], ◌∷◌, length, get_or, Ok, Err, sym, refl, ap, ◌∙◌, subst, inl, inr, ⊎_elim, arith, pow_pos, pow_mono, ltb-false, ltb-true, eqb-true, MatchResult}
use native.Mathlib.Nat.{div-eq_of_lt, two-pow-succ}
use borrow.Author.Tests.{eqb-false}
use lib.Count.{leading_top}
use lib.Pow.{pow-lt}
use Rattle.std.proofs.lemmas.Nat.{le-div, div_below}
use Rattle.std.proofs.lemmas.Bool.Decides.{leb_tells}
use Rattle.keys.specs.Keys.{Narrow, AllBelow, SoundKeys}
use Rattle.keys.specs.Faults.{Checked, High, FirstFault, of_width, of_number, of_pairing, of_byte, fault_at, low_from, and_then, checked, Says}
use Rattle.keys.specs.Laws.{Faults}

-- a byte has a bit at or above the width exactly when it is not below its power
below_pow : (n : ℕ) → n < 2 ^ n
below_pow zero = omega arith
below_pow (suc n) = let h = below_pow n in let l : 2 ^ n < 2 ^ suc n = pow-lt {i = n} {j = suc n} (omega arith) in omega arith

high_from : (width byte : ℕ) → 2 ^ width ≤ byte → High width byte
high_from width byte h =
    let p = pow_pos width in
    let t = leading_top byte byte (omega arith) (below_pow byte) in
    let j = t.0 in
    let q = pow_pos j in
    let two : 2 ^ suc j ≡ 2 ^ j + 2 ^ j = two-pow-succ j in
    let few : byte / 2 ^ j < 2 = div_below byte (2 ^ j) 2 q (omega (arith, t.3)) in
    let some : 1 ≤ byte / 2 ^ j = le-div 1 byte (2 ^ j) q (omega (arith, t.2)) in
    let one : byte / 2 ^ j ≡ 1 = omega arith in
    (j, reach width byte j h t.3, ap (λ (x : ℕ). x % 2) one)
  where
    reach : (width byte j : ℕ) → 2 ^ width ≤ byte → byte < 2 ^ suc j → width ≤ j
    reach width byte j h l = ⊎_elim (λ (e : (leb width j ≡ true) × (width ≤ j)). e.1) (λ (e : (leb width j ≡ false) × (j < width)). let m : 2 ^ suc j ≤ 2 ^ width = pow_mono {i = suc j} {j = width} e.1 in absurd (omega arith)) (leb_tells width j)

low_none : (width byte : ℕ) → byte < 2 ^ width → High width byte → ⊥
low_none width byte h (j, l, bit) =
    let m : 2 ^ width ≤ 2 ^ j = pow_mono l in
    let z : byte / 2 ^ j ≡ 0 = div-eq_of_lt (omega arith) in
    let n : (byte / 2 ^ j) % 2 ≡ 0 = ap (λ (x : ℕ). x % 2) z in
    omega arith

-- what the walk over the bytes tells
pub record FirstFrom (limit : ℕ) (bytes : List ℕ) (start place : ℕ) : Type 0 where
  pub here : ℕ
  pub place_is : place ≡ start + here
  pub inside : here < length bytes
  pub high : limit ≤ get_or bytes here 0
  pub before : AllBelow limit bytes here

below_more : (limit byte : ℕ) (bytes : List ℕ) (n : ℕ) → byte < limit → AllBelow limit bytes n → AllBelow limit (byte ∷ bytes) (suc n)
below_more limit byte bytes n h below zero l = h
below_more limit byte bytes n h below (suc i) l = below i (omega arith)

low_more : (limit byte : ℕ) (bytes : List ℕ) (start : ℕ) → byte < limit → (r : Checked) → MatchResult r (λ _. AllBelow limit bytes (length bytes)) (λ f. FirstFrom limit bytes (start + 1) f.place) → MatchResult r (λ _. AllBelow limit (byte ∷ bytes) (length (byte ∷ bytes))) (λ f. FirstFrom limit (byte ∷ bytes) start f.place)
low_more limit byte bytes start h (Ok u) below = below_more limit byte bytes (length bytes) h below
low_more limit byte bytes start h (Err f) below = record {
  here = suc below.here;
  place_is = let e = below.place_is in omega arith;
  inside = let l = below.inside in omega arith;
  high = below.high;
  before = below_more limit byte bytes below.here h below.before;
}

low_by : (limit byte : ℕ) (bytes : List ℕ) (start : ℕ) (b : Bool) → b ≡ ltb byte limit → MatchResult (low_from limit bytes (start + 1)) (λ _. AllBelow limit bytes (length bytes)) (λ f. FirstFrom limit bytes (start + 1) f.place) → MatchResult (cond b (low_from limit bytes (start + 1)) (fault_at start)) (λ _. AllBelow limit (byte ∷ bytes) (length (byte ∷ bytes))) (λ f. FirstFrom limit (byte ∷ bytes) start f.place)
low_by limit byte bytes start true e below = low_more limit byte bytes start (ltb-true _ _ (sym e)) (low_from limit bytes (start + 1)) below
low_by limit byte bytes start false e below = record { here = 0; place_is = omega arith; inside = omega arith; high = ltb-false _ _ (sym e); before = λ i l. absurd (omega arith) }

low_says : (limit : ℕ) (bytes : List ℕ) (start : ℕ) → MatchResult (low_from limit bytes start) (λ _. AllBelow limit bytes (length bytes)) (λ f. FirstFrom limit bytes start f.place)
low_says limit [] start = λ i l. absurd (omega arith)
low_says limit (byte ∷ bytes) start = low_by limit byte bytes start (ltb byte limit) refl (low_says limit bytes (start + 1))

-- a fault and soundness
not_both : (width : ℕ) (bytes : List ℕ) (place : ℕ) → FirstFault width bytes place → SoundKeys width bytes → ⊥
not_both width bytes place (of_width n e) s = n (s.some_width, s.small_width)
not_both width bytes place (of_number n l e) s = let f = s.few in omega arith
not_both width bytes place (of_pairing n l o e) s = let p = s.paired in omega arith
not_both width bytes place (of_byte n l o i h b) s = low_none width (get_or bytes place 0) (s.low place i) h

fault : (width : ℕ) (bytes : List ℕ) (place : ℕ) → FirstFault width bytes place → FirstFault width bytes place × (SoundKeys width bytes → ⊥)
fault width bytes place h = (h, not_both width bytes place h)

bytes_say : (width : ℕ) (bytes : List ℕ) → Narrow width → length bytes ≤ 512 → length bytes % 2 ≡ 0 → (r : Checked) → MatchResult r (λ _. AllBelow (2 ^ width) bytes (length bytes)) (λ f. FirstFrom (2 ^ width) bytes 0 f.place) → Says width bytes r
bytes_say width bytes n l o (Ok u) h = record { some_width = n.0; small_width = n.1; few = l; paired = o; low = h }
bytes_say width bytes n l o (Err f) h =
    let P : ℕ → Type 0 = λ p. FirstFault width bytes p in
    let e : h.here ≡ f.place = let q = h.place_is in omega arith in
    fault width bytes f.place (subst P e (of_byte n l o h.inside (high_from width (get_or bytes h.here 0) h.high) (λ i k. low_none width (get_or bytes i 0) (h.before i k))))

pairing_says : (width : ℕ) (bytes : List ℕ) (b : Bool) → Narrow width → length bytes ≤ 512 → b ≡ eqb (length bytes % 2) 0 → Says width bytes (and_then (cond b (Ok tt) (fault_at (length bytes))) (low_from (2 ^ width) bytes 0))
pairing_says width bytes true n l e = bytes_say width bytes n l (eqb-true _ _ (sym e)) (low_from (2 ^ width) bytes 0) (low_says (2 ^ width) bytes 0)
pairing_says width bytes false n l e = let o : length bytes % 2 ≡ 0 → ⊥ = eqb-false _ _ (sym e) in fault width bytes (length bytes) (of_pairing n l (omega arith) refl)

number_says : (width : ℕ) (bytes : List ℕ) (b : Bool) → Narrow width → b ≡ ltb 512 (length bytes) → Says width bytes (and_then (cond b (fault_at 512) (cond (eqb (length bytes % 2) 0) (Ok tt) (fault_at (length bytes)))) (low_from (2 ^ width) bytes 0))
number_says width bytes true n e = fault width bytes 512 (of_number n (ltb-true _ _ (sym e)) refl)
number_says width bytes false n e = pairing_says width bytes (eqb (length bytes % 2) 0) n (ltb-false _ _ (sym e)) refl

width_says : (width : ℕ) (bytes : List ℕ) (a b : Bool) → a ≡ ltb width 1 → b ≡ ltb 8 width → Says width bytes (and_then (cond (a || b) (fault_at 0) (cond (ltb 512 (length bytes)) (fault_at 512) (cond (eqb (length bytes % 2) 0) (Ok tt) (fault_at (length bytes))))) (low_from (2 ^ width) bytes 0))
width_says width bytes true b e f = let h = ltb-true _ _ (sym e) in fault width bytes 0 (of_width (λ n. omega arith) refl)
width_says width bytes false true e f = let h = ltb-true _ _ (sym f) in fault width bytes 0 (of_width (λ n. omega arith) refl)
width_says width bytes false false e f = number_says width bytes (ltb 512 (length bytes)) (ltb-false _ _ (sym e), ltb-false _ _ (sym f)) refl

checked-says : (width : ℕ) (bytes : List ℕ) → Says width bytes (checked width bytes)
checked-says width bytes = width_says width bytes (ltb width 1) (ltb 8 width) refl refl

pub says : (width : ℕ) (bytes : List ℕ) (r : Checked) → r ≡ checked width bytes → Says width bytes r
says width bytes r e = subst (Says width bytes) (sym e) (checked-says width bytes)

-- the first fault is one
apart : (width : ℕ) (bytes : List ℕ) (p q : ℕ) → High width (get_or bytes p 0) → ((i : ℕ) → i < p → High width (get_or bytes i 0) → ⊥) → High width (get_or bytes q 0) → ((i : ℕ) → i < q → High width (get_or bytes i 0) → ⊥) → p ≡ q
apart width bytes p q hp bp hq bq =
    let a : p ≤ q = least p q hq bp in
    let b : q ≤ p = least q p hp bq in
    omega arith
  where
    least : (p q : ℕ) → High width (get_or bytes q 0) → ((i : ℕ) → i < p → High width (get_or bytes i 0) → ⊥) → p ≤ q
    least p q h b = ⊎_elim (λ (e : (leb p q ≡ true) × (p ≤ q)). e.1) (λ (e : (leb p q ≡ false) × (q < p)). absurd (b q e.1 h)) (leb_tells p q)

one_place : (width : ℕ) (bytes : List ℕ) (p q : ℕ) → FirstFault width bytes p → FirstFault width bytes q → p ≡ q
one_place width bytes p q (of_width n e) (of_width m f) = e ∙ sym f
one_place width bytes p q (of_width n e) (of_number m l f) = absurd (n m)
one_place width bytes p q (of_width n e) (of_pairing m l o f) = absurd (n m)
one_place width bytes p q (of_width n e) (of_byte m l o i h b) = absurd (n m)
one_place width bytes p q (of_number n l e) (of_width m f) = absurd (m n)
one_place width bytes p q (of_number n l e) (of_number m k f) = e ∙ sym f
one_place width bytes p q (of_number n l e) (of_pairing m k o f) = absurd (omega arith)
one_place width bytes p q (of_number n l e) (of_byte m k o i h b) = absurd (omega arith)
one_place width bytes p q (of_pairing n l o e) (of_width m f) = absurd (m n)
one_place width bytes p q (of_pairing n l o e) (of_number m k f) = absurd (omega arith)
one_place width bytes p q (of_pairing n l o e) (of_pairing m k r f) = e ∙ sym f
one_place width bytes p q (of_pairing n l o e) (of_byte m k r i h b) = absurd (omega arith)
one_place width bytes p q (of_byte n l o i h b) (of_width m f) = absurd (m n)
one_place width bytes p q (of_byte n l o i h b) (of_number m k f) = absurd (omega arith)
one_place width bytes p q (of_byte n l o i h b) (of_pairing m k r f) = absurd (omega arith)
one_place width bytes p q (of_byte n l o i h b) (of_byte m k r j g a) = apart width bytes p q h b g a

sound_or : (width : ℕ) (bytes : List ℕ) (r : Checked) → Says width bytes r → SoundKeys width bytes ⊎ ((place : ℕ) × FirstFault width bytes place)
sound_or width bytes (Ok u) h = inl h
sound_or width bytes (Err f) h = inr (f.place, h.0)

pub faults : Faults
faults = record {
  sound_or = λ width bytes. sound_or width bytes (checked width bytes) (checked-says width bytes);
  not_both = not_both;
  one_place = one_place;
}
