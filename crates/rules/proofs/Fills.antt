-- Lists that a loop fills.
use Rattle.std.proofs.Common.{◌≡◌, ℕ, ◌+◌, ◌<◌, ◌≤◌, ◌⊎◌, List, length, get_or, set, Some, sym, refl, ap, ◌∙◌, subst, inl, inr, arith, length-set}
use Rattle.std.specs.List.{slice_get}
use Rattle.std.proofs.lemmas.List.{get_or-set_same, get_or-set_other}
use Rattle.std.proofs.lemmas.Option.{slice_get-get_or, get_or_from_slice_get}
use Rattle.std.proofs.lemmas.Bool.{cases_eq}

-- what holds of each place below k holds of one more, once it is written there
pub filled_more : {X : Type 0} (P : ℕ → X → Type 0) (d : X) (xs : List X) (k : ℕ) (x : X) → k < length xs → P k x → ((i : ℕ) → i < k → P i (get_or xs i d)) → (i : ℕ) → i < k + 1 → P i (get_or (set xs k x) i d)
filled_more P d xs k x long new old i h = at (cases_eq i k)
  where
    at : (i ≡ k) ⊎ (i ≡ k → ⊥) → P i (get_or (set xs k x) i d)
    at (inl e) = subst (λ y. P y (get_or (set xs k x) y d)) (sym e) (subst (P k) (sym (get_or-set_same xs k x d long)) new)
    at (inr ne) = subst (P i) (sym (get_or-set_other xs k i x d ne)) (old i (omega arith))

-- the same of what stands there
pub got_more : {X : Type 0} (P : ℕ → X → Type 0) (xs : List X) (k : ℕ) (x : X) → k < length xs → P k x → ((i : ℕ) → i < k → (y : X) × P i y × (slice_get xs i ≡ Some y)) → (i : ℕ) → i < k + 1 → (y : X) × P i y × (slice_get (set xs k x) i ≡ Some y)
got_more {X = X} P xs k x long new old i h =
    let within : i < length (set xs k x) = omega (arith, length-set xs k x) in
    let (y, p, e) = filled_more (λ i z. (y : X) × P i y × (z ≡ y)) x xs k x long (x, new, refl) before i h in
    (y, p, slice_get-get_or (set xs k x) i x within ∙ ap Some e)
  where
    before : (i : ℕ) → i < k → (y : X) × P i y × (get_or xs i x ≡ y)
    before i h = let (y, p, e) = old i h in (y, p, get_or_from_slice_get xs i y x e)

-- the places below k are changed by f, and the others are as they were
pub record Changed {X : Type 0} (f : X → X) (d : X) (old xs : List X) (k : ℕ) : Type 0 where
  pub before : (i : ℕ) → i < k → get_or xs i d ≡ f (get_or old i d)
  pub after : (i : ℕ) → k ≤ i → i < length xs → get_or xs i d ≡ get_or old i d

pub changed_more : {X : Type 0} (f : X → X) (d : X) (old xs : List X) (k : ℕ) (x : X) → k < length xs → x ≡ f (get_or xs k d) → Changed f d old xs k → Changed f d old (set xs k x) (k + 1)
changed_more f d old xs k x long is so = record {
  before = filled_more (λ i y. y ≡ f (get_or old i d)) d xs k x long (is ∙ ap f (so.after k (omega arith) long)) so.before;
  after = λ i h inside. get_or-set_other xs k i x d (λ e. omega arith) ∙ so.after i (omega arith) (omega (arith, length-set xs k x));
}

-- the same of places from n on
pub filled-after : {X : Type 0} (P : ℕ → X → Type 0) (d : X) (n : ℕ) (xs : List X) (k : ℕ) (x : X) → n + k < length xs → P k x → ((i : ℕ) → i < k → P i (get_or xs (n + i) d)) → (i : ℕ) → i < k + 1 → P i (get_or (set xs (n + k) x) (n + i) d)
filled-after P d n xs k x long new old i h = at (cases_eq i k)
  where
    at : (i ≡ k) ⊎ (i ≡ k → ⊥) → P i (get_or (set xs (n + k) x) (n + i) d)
    at (inl e) = subst (λ y. P y (get_or (set xs (n + k) x) (n + y) d)) (sym e) (subst (P k) (sym (get_or-set_same xs (n + k) x d long)) new)
    at (inr ne) = subst (P i) (sym (get_or-set_other xs (n + k) (n + i) x d (λ e. ne (omega arith)))) (old i (omega arith))
