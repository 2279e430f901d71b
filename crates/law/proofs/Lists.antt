-- Numbers and lists that the laws' proofs share.
use Rattle.std.proofs.Common.{◌≡◌, ℕ, ◌<◌, ◌≤◌, min, max, ◌⊎◌, sym, ap, ◌∙◌, subst, inl, inr, arith}
use Rattle.std.proofs.lemmas.Bool.{cases_lt}

-- what a function makes alike of two numbers it makes alike of the lesser and the greater
pub min-max : (F : ℕ → ℕ) (x y : ℕ) → F x ≡ F y → F (min x y) ≡ F (max x y)
min-max F x y e = go (cases_lt x y)
  where
    go : (x < y) ⊎ (y ≤ x) → F (min x y) ≡ F (max x y)
    go (inl l) = let a : min x y ≡ x = omega arith in let c : max x y ≡ y = omega arith in ap F a ∙ e ∙ sym (ap F c)
    go (inr l) = let a : min x y ≡ y = omega arith in let c : max x y ≡ x = omega arith in ap F a ∙ sym e ∙ sym (ap F c)

-- what holds of two numbers holds of the greater and of the lesser
pub at-max : (P : ℕ → Type 0) (x y : ℕ) → P x → P y → P (max x y)
at-max P x y p q = go (cases_lt x y)
  where
    go : (x < y) ⊎ (y ≤ x) → P (max x y)
    go (inl l) = let e : y ≡ max x y = omega arith in subst P e q
    go (inr l) = let e : x ≡ max x y = omega arith in subst P e p

pub at-min : (P : ℕ → Type 0) (x y : ℕ) → P x → P y → P (min x y)
at-min P x y p q = go (cases_lt x y)
  where
    go : (x < y) ⊎ (y ≤ x) → P (min x y)
    go (inl l) = let e : x ≡ min x y = omega arith in subst P e p
    go (inr l) = let e : y ≡ min x y = omega arith in subst P e q
