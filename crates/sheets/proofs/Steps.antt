-- One step of the walk over words of one sort.
use Rattle.std.proofs.Common.{◌≡◌, ℕ, Bool, zero, suc, ◌+◌, ◌<◌, ◌≤◌, true, false, List, length, get_or, Err, arith}
use Rattle.std.proofs.lemmas.Bool.{lt-ltb, le-ltb}
use Rattle.sheets.specs.Walk.{each}

module _ (test : ℕ → Bool) (words : List ℕ) where
  pub each_next : (n m at : ℕ) → n ≡ suc m → at < length words → test (get_or words at 0) ≡ true → each test words n at ≡ each test words m (at + 1)
  each_next zero m at e h t = absurd (omega arith)
  each_next (suc n) m at e h t =
      let k : n ≡ m = omega arith in
      rw (lt-ltb at (length words) h, t, k)

  pub each_short : (n m at : ℕ) → n ≡ suc m → length words ≤ at → each test words n at ≡ Err (record { place = at })
  each_short zero m at e h = absurd (omega arith)
  each_short (suc n) m at e h = rw (le-ltb at (length words) h)

  pub each_wrong : (n m at : ℕ) → n ≡ suc m → at < length words → test (get_or words at 0) ≡ false → each test words n at ≡ Err (record { place = at })
  each_wrong zero m at e h t = absurd (omega arith)
  each_wrong (suc n) m at e h t = rw (lt-ltb at (length words) h, t)
