-- The pairs of a rule of each kind.
use Rattle.std.proofs.Common.{◌≡◌, ℕ, ◌+◌, ◌*◌, ◌<◌, Bool, true, false, cond, List, Some, arith}
use Rattle.std.specs.List.{slice_get}
use Rattle.sheets.specs.Reads.{slots, term_in, pair_in}
use Rattle.sheets.specs.Slots.{slots_nth}
use Rattle.rules.specs.declared.term.Kind.TheVariants.{Functional, Equality}

module _ (words : List ℕ) where
  -- by the kind's test
  pub pair_functional : (b : Bool) (n place k p : ℕ) → k < n → cond b Functional Equality ≡ Functional → p ≡ place + 1 + k
      → slice_get (slots (pair_in (cond b Functional Equality) words) (cond b 1 2) n (place + 1)) k ≡ Some (term_in words p, term_in words p)
  pair_functional true n place k p low e h = slots_nth (pair_in Functional words) 1 n (place + 1) k p low (omega arith)
  pair_functional false n place k p low e h = cc

  pub pair_equality : (b : Bool) (n place k p : ℕ) → k < n → cond b Functional Equality ≡ Equality → p ≡ place + 1 + k * 2
      → slice_get (slots (pair_in (cond b Functional Equality) words) (cond b 1 2) n (place + 1)) k ≡ Some (term_in words p, term_in words (p + 1))
  pair_equality true n place k p low e h = cc
  pair_equality false n place k p low e h = slots_nth (pair_in Equality words) 2 n (place + 1) k p low (omega arith)
