-- An output that is closed holds what was to be written, or nothing.
use Rattle.std.proofs.Common.{◌≡◌, ℕ, ◌-◌, List, ◌++◌, length, take, replicate, Ok, Err, Result, ap, ◌∙◌, arith}
use Rattle.pieces.specs.declared.output.Output.{Output}
use Rattle.pieces.specs.Put.{written, size}
use Rattle.writing.specs.Fitting.{whole, Writes}
use Rattle.writing.specs.Filling.{Fills, closed_answer, closed_places}

pub closes : {E : Type 0} (short : ℕ → E) (a b : Output) (ps : List (List ℕ)) (put : Result (Unit {0}) E) → a.used ≡ 0 → Fills short a ps put b → Writes short (size a) ps (closed_answer b put) (closed_places b put)
closes short a b ps (Ok u) none f =
    let long = f.same.long in
    let p = f.cases in
    let used : b.used ≡ length (whole ps) = omega (arith, p.used) in
    let left : size b - b.used ≡ size a - b.used = omega arith in
    record {
      long = used;
      room = omega (arith, p.fits);
      holds = ap (λ n. written b ++ replicate n 0) left ∙ ap (λ xs. xs ++ replicate (size a - b.used) 0) (p.holds ∙ ap (λ n. take n a.places.now ++ whole ps) none);
    }
closes short a b ps (Err e) none f =
    let p = f.cases.2 in (
      f.cases.0,
      f.cases.1,
      record {
        listed = p.listed;
        before = omega (arith, p.before);
        past = omega (arith, p.past);
        blank = ap (λ n. replicate n 0) f.same.long;
      },
    )
