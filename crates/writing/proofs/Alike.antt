-- There is one answer for each size and each list of parts.
use Rattle.std.proofs.Common.{◌≡◌, ℕ, zero, suc, ◌+◌, ◌-◌, ◌<◌, ◌≤◌, Bool, true, false, ◌↔◌, List, [], ◌∷◌, ◌++◌, length, take, replicate, is_ok, Ok, Err, Result, sym, refl, ap, ◌∙◌, ⊎_elim, arith}
use Rattle.std.proofs.lemmas.List.{length-append, take_all}
use Rattle.std.proofs.lemmas.Bool.{cases_lt}
use Rattle.writing.specs.declared.room.TooShort.{TooShort}
use Rattle.writing.specs.Faults.{short_at}
use Rattle.writing.specs.Fitting.{whole, Fits, ShortAt, Writes, Fitting}

-- more parts are not shorter
grows : (j k : ℕ) (ps : List (List ℕ)) → j ≤ k → length (whole (take j ps)) ≤ length (whole (take k ps))
grows zero k ps h = omega arith
grows (suc j) zero ps h = absurd (omega arith)
grows (suc j) (suc k) [] h = omega arith
grows (suc j) (suc k) (p ∷ ps) h = omega (arith, grows j k ps (omega arith), length-append p (whole (take j ps)), length-append p (whole (take k ps)))

at_most : (k : ℕ) (ps : List (List ℕ)) → length (whole (take k ps)) ≤ length (whole ps)
at_most k ps =
    ⊎_elim
    (λ h. omega (arith, grows k (length ps) ps (omega arith), ap (λ xs. length (whole xs)) (take_all (length ps) ps (omega arith))))
    (λ h. omega (arith, ap (λ xs. length (whole xs)) (take_all k ps h)))
    (cases_lt k (length ps))

abbrev First : ℕ → List (List ℕ) → ℕ → Type 0
First size ps k = (k < length ps) × (length (whole (take k ps)) ≤ size) × (size < length (whole (take (k + 1) ps)))

first : (size : ℕ) (ps : List (List ℕ)) → size < length (whole ps) → (k : ℕ) × First size ps k
first size [] h = absurd (omega arith)
first size (p ∷ ps) h =
    ⊎_elim
    (λ short. (0, (omega arith, omega arith, omega (arith, length-append p []))))
    (λ fits.
    let rest = first (size - length p) ps (omega (arith, length-append p (whole ps))) in
    let k = rest.0 in
    let f = rest.1 in
    let more : length (whole (take (suc k + 1) (p ∷ ps))) ≡ length p + length (whole (take (k + 1) ps)) =
    (let e : suc k + 1 ≡ suc (k + 1) = omega arith in ap (λ n. length (whole (take n (p ∷ ps)))) e ∙ length-append p (whole (take (k + 1) ps))) in
    (suc k, (omega (arith, f.0), omega (arith, f.1, length-append p (whole (take k ps))), omega (arith, f.2))))
    (cases_lt size (length p))

never_both : (size : ℕ) (ps : List (List ℕ)) (n k : ℕ) (out out' : List ℕ) → Fits size ps n out → ShortAt size ps k out' → ⊥
never_both size ps n k out out' f s = omega (arith, f.long, f.room, s.past, at_most (k + 1) ps)

not_before : (size : ℕ) (ps : List (List ℕ)) (k j : ℕ) (out out' : List ℕ) → ShortAt size ps k out → ShortAt size ps j out' → k < j → ⊥
not_before size ps k j out out' f s h = omega (arith, f.past, s.before, grows (k + 1) j ps (omega arith))

module _ (E : Type 0) (short : ℕ → E) where
  pub some : (size : ℕ) (ps : List (List ℕ)) → (r : Result ℕ E) × (out : List ℕ) × Writes short size ps r out
  some size ps =
      ⊎_elim
      (λ less.
      let f = first size ps less in
      (Err (short f.0), replicate size 0, (f.0, refl, record { listed = f.1.0; before = f.1.1; past = f.1.2; blank = refl })))
      (λ fits. (Ok (length (whole ps)), whole ps ++ replicate (size - length (whole ps)) 0, record { long = refl; room = fits; holds = refl }))
      (cases_lt size (length (whole ps)))

  pub one : (size : ℕ) (ps : List (List ℕ)) (r r' : Result ℕ E) (out out' : List ℕ) → Writes short size ps r out → Writes short size ps r' out' → (r ≡ r') × (out ≡ out')
  one size ps (Ok n) (Ok m) out out' f s =
      let same : n ≡ m = f.long ∙ sym s.long in
      (ap Ok same, f.holds ∙ ap (λ k. whole ps ++ replicate (size - k) 0) same ∙ sym s.holds)
  one size ps (Ok n) (Err e) out out' f s = absurd (never_both size ps n s.0 out out' f s.2)
  one size ps (Err e) (Ok n) out out' s f = absurd (never_both size ps n s.0 out' out f s.2)
  one size ps (Err e) (Err d) out out' f s =
      let same : f.0 ≡ s.0 =
      ⊎_elim (λ h. absurd (not_before size ps f.0 s.0 out out' f.2 s.2 h))
      (λ h. ⊎_elim (λ g. absurd (not_before size ps s.0 f.0 out' out s.2 f.2 g)) (λ g. omega arith) (cases_lt s.0 f.0))
      (cases_lt f.0 s.0) in
      (ap Err (f.1 ∙ ap short same ∙ sym s.1), f.2.blank ∙ sym s.2.blank)

  pub written : (size : ℕ) (ps : List (List ℕ)) (r : Result ℕ E) (out : List ℕ) → Writes short size ps r out → (is_ok r ≡ true) ↔ (length (whole ps) ≤ size)
  written size ps (Ok n) out f = (λ e. omega (arith, f.long, f.room), λ h. refl)
  written size ps (Err e) out s =
      (λ t. let z : ◌≡◌ {A = Bool} false true = t in let y : ◌≡◌ {A = ℕ} 0 1 = cc in absurd (omega arith), λ h. absurd (omega (arith, s.2.past, at_most (s.0 + 1) ps)))

pub fitting : Fitting
fitting = record { some = some TooShort short_at; one = one TooShort short_at; written = written TooShort short_at }
