-- One step of the loop that finds where the rules begin.
use Rattle.std.proofs.Common.{◌≡◌, ℕ, zero, suc, ◌+◌, ◌<◌, ◌≢◌, List, length, set, Ok, Err, sym, refl, ⊎_elim, arith}
use Rattle.std.proofs.lemmas.List.{get_or-set_same, get_or-set_other}
use Rattle.std.proofs.lemmas.Bool.{cases_order}
use Rattle.sheets.specs.Walk.{rule_end, rules_end}
use Rattle.sheets.specs.Reads.{end_of}
use Rattle.sheets.specs.Facts.{start_of, Starts}
use Rattle.rules.specs.declared.fault.BookFault.{BookFault}

module _ (words : List ℕ) (width : ℕ) where
  pub start-more : (i at : ℕ) → start_of words width (suc i) at ≡ end_of words width (start_of words width i at)
  start-more zero at = refl
  start-more (suc i) at = start-more i (end_of words width at)

  pub rules_next : (n m at e : ℕ) → n ≡ suc m → Ok e ≡ rule_end words width at → rules_end words width n at ≡ rules_end words width m e
  rules_next zero m at e h o = absurd (omega arith)
  rules_next (suc n) m at e h o = let k : n ≡ m = omega arith in rw (sym o, k)

  pub rules_wrong : (n m at : ℕ) (f : BookFault) → n ≡ suc m → Err f ≡ rule_end words width at → rules_end words width n at ≡ Err f
  rules_wrong zero m at f h o = absurd (omega arith)
  rules_wrong (suc n) m at f h o = rw (sym o)

  pub starts_more : (starts : List ℕ) (i at : ℕ) → i < length starts → at ≡ start_of words width i 2 → Starts words width i starts → Starts words width (i + 1) (set starts i at)
  starts_more starts i at l e h k b =
      ⊎_elim (λ q. let s : k ≡ i = q in rw (s, get_or-set_same starts i at 0 l) e)
      (λ q. ⊎_elim (λ lt. let ne : k ≢ i = omega arith in rw (get_or-set_other starts i k at 0 ne) (h k lt)) (λ gt. absurd (omega arith)) q)
      (cases_order k i)
