-- Parts that are put down, and the first that does not fit.
use Rattle.std.proofs.Common.{◌≡◌, ℕ, ◌+◌, ◌<◌, List, length, IsErrAnd, MatchResult, Ok, Err, Result, ap, ◌∙◌, arith}
use Rattle.pieces.specs.declared.output.Output.{Output}
use Rattle.pieces.specs.declared.output.Short.{Short}
use Rattle.pieces.specs.Put.{size, Same, Put, Puts}
use Rattle.writing.specs.declared.room.TooShort.{TooShort}
use Rattle.writing.specs.Filling.{Past, Fills}
use Rattle.report.specs.declared.fault.ReportFault.{ReportFault}
use Rattle.report.specs.declared.fault.ReportFault.TheVariants as fault
use Rattle.report.specs.Faults.{short_fault}

module _ (a b : Output) (bs : List ℕ) (k : ℕ) where
  -- what is refused at place k where it fails was put down
  pub put_down : (r : Result (Unit {0}) Short) (u : Unit {0}) → Puts a bs r b →
      MatchResult r (λ x. ◌≡◌ {A = Result (Unit {0}) TooShort} (Ok u) (Ok x)) (λ _. ◌≡◌ {A = Result (Unit {0}) TooShort} (Ok u) (Err (record { place = k }))) → Put a bs b
  put_down (Ok x) u p m = p.cases
  put_down (Err x) u p m = let z : ◌≡◌ {A = ℕ} 0 1 = cc in absurd (omega arith)

  -- or it did not fit
  pub too_short : (r : Result (Unit {0}) Short) (e : TooShort) → Puts a bs r b →
      MatchResult r (λ x. ◌≡◌ {A = Result (Unit {0}) TooShort} (Err e) (Ok x)) (λ _. ◌≡◌ {A = Result (Unit {0}) TooShort} (Err e) (Err (record { place = k }))) →
      (size a < a.used + length bs) × (e ≡ record { place = k })
  too_short (Ok x) e p m = let z : ◌≡◌ {A = ℕ} 0 1 = cc in absurd (omega arith)
  too_short (Err x) e p m = (p.cases, let same : e ≡ record { place = k } = cc in same)

-- and the report is refused there
pub refused_at : (a b : Output) (ps : List (List ℕ)) (k : ℕ) (e : TooShort) (r : Result (Unit {0}) ReportFault) → IsErrAnd r (λ y. y ≡ fault.Short e) →
    e ≡ record { place = k } → Same a b → Past a ps k → Fills short_fault a ps r b
refused_at a b ps k e (Ok u) h at same past = absurd h
refused_at a b ps k e (Err y) h at same past = record { same = same; cases = (k, h ∙ ap fault.Short at, past) }
