-- Parts written one after another into lent places.
use Rattle.std.specs.Prelude.{◌≡◌, ℕ, ◌+◌, ◌-◌, ◌<◌, ◌≤◌, true, ◌↔◌, List, ◌++◌, length, take, replicate, is_ok, Result, MatchResult}
use Rattle.std.specs.List.{flat_map}
use Rattle.writing.specs.declared.room.TooShort.{TooShort}
use Rattle.writing.specs.Faults.{short_at}

abbrev pub whole : List (List ℕ) → List ℕ
whole ps = flat_map (λ p. p) ps

-- all parts fit: the places hold them, and then zeros
pub record Fits (size : ℕ) (ps : List (List ℕ)) (n : ℕ) (out : List ℕ) : Type 0 where
  pub long : n ≡ length (whole ps)
  pub room : n ≤ size
  pub holds : out ≡ whole ps ++ replicate (size - n) 0

-- part k, counted from 0, is the first that does not fit: the parts before it fit, and with it they do not; all places
-- are zero
pub record ShortAt (size : ℕ) (ps : List (List ℕ)) (k : ℕ) (out : List ℕ) : Type 0 where
  pub listed : k < length ps
  pub before : length (whole (take k ps)) ≤ size
  pub past : size < length (whole (take (k + 1) ps))
  pub blank : out ≡ replicate size 0

-- What a call answers that writes these parts into so many places, and what the places then hold. `short k` is the fault
-- that says that part k is the first that does not fit.
abbrev pub Writes : {E : Type 0} → (ℕ → E) → ℕ → List (List ℕ) → Result ℕ E → List ℕ → Type 0
Writes short size ps r out = MatchResult r (λ n. Fits size ps n out) (λ e. (k : ℕ) × (e ≡ short k) × ShortAt size ps k out)

pub record Fitting : Type 0 where
  -- there is exactly one answer, with what the places hold
  pub some : (size : ℕ) (ps : List (List ℕ)) → (r : Result ℕ TooShort) × (out : List ℕ) × Writes short_at size ps r out
  pub one : (size : ℕ) (ps : List (List ℕ)) (r r' : Result ℕ TooShort) (out out' : List ℕ) →
      Writes short_at size ps r out → Writes short_at size ps r' out' → (r ≡ r') × (out ≡ out')
  -- it is no refusal exactly if the parts together are not longer than the places
  pub written : (size : ℕ) (ps : List (List ℕ)) (r : Result ℕ TooShort) (out : List ℕ) →
      Writes short_at size ps r out → (is_ok r ≡ true) ↔ (length (whole ps) ≤ size)
