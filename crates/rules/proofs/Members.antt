-- Members of lists.
use Rattle.std.proofs.Common.{◌≡◌, ℕ, true, eqb, ◌⊎◌, List, [], ◌∷◌, map, sym, refl, ap₂, inl, inr}
use mathlib.Core.List.{Memᴰ}
use Rattle.std.proofs.lemmas.Bool.{eq-eqb, eqb-true, false≢true, or_cases, or_left, or_right}
use Rattle.rules.specs.Rules.{◌∈◌}
use Rattle.rules.specs.Doubled.{holds}

-- two functions that agree on the members have one map
pub map_on : {A B : Type 0} (f g : A → B) (xs : List A) → ((x : A) → x ∈ xs → f x ≡ g x) → map f xs ≡ map g xs
map_on f g [] h = refl
map_on f g (x ∷ xs) h = ap₂ ◌∷◌ (h x (Memᴰ.head refl)) (map_on f g xs (λ y m. h y (Memᴰ.tail m)))

pub holds-member : (xs : List ℕ) (v : ℕ) → v ∈ xs → holds xs v ≡ true
holds-member [] v m = elim m [ ]
holds-member (x ∷ xs) v (Memᴰ.head e) = or_left (eqb x v) (holds xs v) (eq-eqb x v (sym e))
holds-member (x ∷ xs) v (Memᴰ.tail m) = or_right (eqb x v) (holds xs v) (holds-member xs v m)

pub member_holds : (xs : List ℕ) (v : ℕ) → holds xs v ≡ true → v ∈ xs
member_holds [] v e = absurd (false≢true e)
member_holds (x ∷ xs) v e = go (or_cases (eqb x v) (holds xs v) e) (member_holds xs v)
  where
    go : (eqb x v ≡ true) ⊎ (holds xs v ≡ true) → (holds xs v ≡ true → v ∈ xs) → v ∈ (x ∷ xs)
    go (inl k) rest = Memᴰ.head (sym (eqb-true x v k))
    go (inr k) rest = Memᴰ.tail (rest k)
