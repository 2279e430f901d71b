-- Lemmas: what stands in slots of one size.
-- They stand here, and not in proofs/, because Wells needs them.
use Rattle.std.specs.Prelude.{◌≡◌, ℕ, zero, suc, ◌+◌, ◌*◌, ◌<◌, ◌≤◌, length, Some, None, refl}
use Rattle.std.proofs.Common.{ap, arith, suc-mul, zero-mul}
use Rattle.std.specs.List.{slice_get}
use Rattle.sheets.specs.Reads.{slots}

module _ {X : Type 0} (f : ℕ → X) (size : ℕ) where
  pub slots_length : (n at : ℕ) → length (slots f size n at) ≡ n
  slots_length zero at = refl
  slots_length (suc n) at = ap suc (slots_length n (at + size))

  pub slots_nth : (n at i p : ℕ) → i < n → p ≡ at + i * size → slice_get (slots f size n at) i ≡ Some (f p)
  slots_nth zero at i p h e = absurd (omega arith)
  slots_nth (suc n) at zero p h e = ap (λ x. Some (f x)) (omega (arith, zero-mul size))
  slots_nth (suc n) at (suc i) p h e = slots_nth n (at + size) i p (omega arith) (omega (arith, suc-mul i size))

  pub slots_past : (n at i : ℕ) → n ≤ i → slice_get (slots f size n at) i ≡ None
  slots_past zero at i h = refl
  slots_past (suc n) at zero h = absurd (omega arith)
  slots_past (suc n) at (suc i) h = slots_past n (at + size) i (omega arith)
