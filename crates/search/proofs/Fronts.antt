-- What a loop over a list of the rule shows of its places.
use Rattle.std.proofs.Common.{◌≡◌, ℕ, ◌<◌, ◌≤◌, List, map, length, get_or, ap, ◌∙◌, subst, arith}
use Rattle.std.specs.List.{range_with_len}
use Rattle.std.proofs.lemmas.List.FromFn.{length-map-range_with_len, get_or-map-range_with_len}

module _ {X : Type 0} (d : X) (f : ℕ → X) (n : ℕ) (ys : List X) (is : ys ≡ map f (range_with_len 0 n)) where
  pub counted-long : length ys ≡ n
  counted-long = ap length is ∙ length-map-range_with_len f 0 n

  pub counted_at : (k : ℕ) → k < n → get_or ys k d ≡ f k
  counted_at k h = ap (λ zs. get_or zs k d) is ∙ get_or-map-range_with_len f 0 n k k d h (omega arith)

  pub counted_all : (P : ℕ → X → Type 0) (i : ℕ) → length ys ≤ i → ((k : ℕ) → k < i → P k (get_or ys k d)) → (k : ℕ) → k < n → P k (f k)
  counted_all P i all each k h = let long = counted-long in subst (P k) (counted_at k h) (each k (omega arith))
