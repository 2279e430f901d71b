-- Parts one after another, and the first that does not fit.
use Rattle.std.proofs.Common.{◌≡◌, ℕ, ◌+◌, ◌<◌, ◌≤◌, List, [], ◌∷◌, ◌++◌, length, take, sym, refl, ap, ◌∙◌, arith}
use Rattle.std.proofs.lemmas.List.{append_assoc, append-nil, length-append, take_at}
use Rattle.pieces.specs.declared.output.Output.{Output}
use Rattle.pieces.specs.Put.{size, Same, Put}
use Rattle.writing.specs.Fitting.{whole}
use Rattle.writing.specs.Filling.{Past}

pub whole_append : (ps qs : List (List ℕ)) → whole (ps ++ qs) ≡ whole ps ++ whole qs
whole_append [] qs = refl
whole_append (p ∷ ps) qs = ap (λ xs. p ++ xs) (whole_append ps qs) ∙ sym (append_assoc p (whole ps) (whole qs))

pub whole-push : (ps : List (List ℕ)) (p : List ℕ) → whole (ps ++ p ∷ []) ≡ whole ps ++ p
whole-push ps p = whole_append ps (p ∷ []) ∙ ap (λ xs. whole ps ++ xs) (append-nil p)

-- the parts ps fit after what is written, and p does not fit after them
pub past_at : (a : Output) (ps : List (List ℕ)) (p : List ℕ) (qs : List (List ℕ)) (k : ℕ) → length ps ≡ k →
    a.used + length (whole ps) ≤ size a → size a < a.used + (length (whole ps) + length p) → Past a (ps ++ p ∷ qs) k
past_at a ps p qs k long fits short =
    let here : take k (ps ++ p ∷ qs) ≡ ps = take_at ps (p ∷ qs) k long in
    let more : take (k + 1) (ps ++ p ∷ qs) ≡ ps ++ p ∷ [] =
    ap (take (k + 1)) (sym (append_assoc ps (p ∷ []) qs)) ∙ take_at (ps ++ p ∷ []) qs (k + 1) (omega (arith, length-append ps (p ∷ []))) in
    record {
      listed = omega (arith, length-append ps (p ∷ qs));
      before = omega (arith, ap (λ xs. length (whole xs)) here);
      past = omega (arith, ap (λ xs. length (whole xs)) more, ap length (whole-push ps p), length-append (whole ps) p);
    }

-- after a put what is written is within the places
pub put-within : {a b : Output} {xs : List ℕ} → Same a b → Put a xs b → b.used ≤ size b
put-within s p = let long = s.long in omega (arith, p.used, p.fits)
