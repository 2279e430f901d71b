-- What stands at a place of a list.
use Rattle.std.proofs.Common.{◌≡◌, ℕ, zero, suc, ◌<◌, ◌≤◌, ◌⊎◌, List, [], ◌∷◌, map, length, get_or, take, Some, None, sym, ap, ◌∙◌, inl, inr, arith}
use mathlib.Core.List.{Memᴰ}
use Rattle.std.specs.List.{range_with_len, slice_get}
use Rattle.std.proofs.lemmas.List.FromFn.{length-map-range_with_len, get_or-map-range_with_len}
use Rattle.std.proofs.lemmas.List.{get_or-take, length-take-le, same_lists}
use Rattle.std.proofs.lemmas.Option.{slice_get-get_or}
use Rattle.std.proofs.lemmas.Bool.{cases_lt}
use Rattle.rules.specs.Rules.{◌∈◌}

pub some_same : {X : Type 0} (x y : X) → Some x ≡ Some y → x ≡ y
some_same x y e = cc

pub some_none : {X : Type 0} (x : X) → Some x ≡ None → ⊥
some_none x e = let z : ◌≡◌ {A = ℕ} 0 1 = cc in omega arith

pub nth_member : {X : Type 0} (xs : List X) (i : ℕ) (x : X) → slice_get xs i ≡ Some x → x ∈ xs
nth_member [] i x e = absurd (some_none x (sym e))
nth_member (y ∷ ys) zero x e = Memᴰ.head (sym (some_same y x e))
nth_member (y ∷ ys) (suc i) x e = Memᴰ.tail (nth_member ys i x e)

pub member_nth : {X : Type 0} (xs : List X) (x : X) → x ∈ xs → (i : ℕ) × (slice_get xs i ≡ Some x)
member_nth [] x m = elim m [ ]
member_nth (y ∷ ys) x (Memᴰ.head e) = (zero, ap Some (sym e))
member_nth (y ∷ ys) x (Memᴰ.tail m) = let (i, e) = member_nth ys x m in (suc i, e)

pub nth_none : {X : Type 0} (d : X) (xs : List X) (i : ℕ) → slice_get xs i ≡ None → length xs ≤ i
nth_none d xs i e = go (cases_lt i (length xs))
  where
    go : (i < length xs) ⊎ (length xs ≤ i) → length xs ≤ i
    go (inl h) = absurd (some_none _ (sym (slice_get-get_or xs i d h) ∙ e))
    go (inr h) = h

-- a list made from a function of the index
pub nth_counted : {X : Type 0} (f : ℕ → X) (n k : ℕ) → k < n → slice_get (map f (range_with_len 0 n)) k ≡ Some (f k)
nth_counted f n k h =
    let long = length-map-range_with_len f 0 n in
    slice_get-get_or (map f (range_with_len 0 n)) k (f k) (omega arith) ∙ ap Some (get_or-map-range_with_len f 0 n k k (f k) h (omega arith))

pub counted_is : {X : Type 0} (f : ℕ → X) (xs : List X) (n : ℕ) → n ≡ length xs → ((k : ℕ) → k < n → slice_get xs k ≡ Some (f k)) → map f (range_with_len 0 n) ≡ xs
counted_is f xs n long each =
    let made = length-map-range_with_len f 0 n in
    same_lists (map f (range_with_len 0 n)) xs (made ∙ long) (λ k d h.
    let inside : k < n = omega arith in
    get_or-map-range_with_len f 0 n k k d inside (omega arith) ∙ some_same _ _ (sym (each k inside) ∙ slice_get-get_or xs k d (omega arith)))

-- the front of a list, by the index
pub counted_take : {X : Type 0} (d : X) (xs : List X) (n : ℕ) → n ≤ length xs → map (λ k. get_or xs k d) (range_with_len 0 n) ≡ take n xs
counted_take d xs n few =
    let long = length-take-le n xs few in
    counted_is (λ k. get_or xs k d) (take n xs) n (sym long) (λ k h. slice_get-get_or (take n xs) k d (omega arith) ∙ ap Some (get_or-take n xs k d h))
