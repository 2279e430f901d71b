-- What a row has left from an entry on.
use Rattle.std.proofs.Common.{◌≡◌, ℕ, zero, suc, ◌+◌, List, [], ◌∷◌, length, get_or, drop, Some, None, sym, refl, ap, ◌∙◌, ⊎_elim, arith}
use Rattle.std.specs.List.{slice_get}
use Rattle.std.proofs.lemmas.List.{get_or_past}
use Rattle.std.proofs.lemmas.Option.{slice_get-get_or, slice_get_past}
use Rattle.std.proofs.lemmas.Bool.{cases_lt}
use Rattle.rules.specs.Books.{within}
use Rattle.writing.specs.Outcomes.{Outcome, rows_of, entry_at}

in_row : (o : Outcome) (row column : ℕ) → entry_at o row column ≡ slice_get (get_or (rows_of o) row []) column
in_row o row column =
    ⊎_elim
    (λ h. ap (λ r. within r (λ t. slice_get t column)) (slice_get-get_or (rows_of o) row [] h))
    (λ h. ap (λ r. within r (λ t. slice_get t column)) (slice_get_past (rows_of o) row h) ∙ sym (ap (λ r. slice_get r column) (get_or_past (rows_of o) row [] h) ∙ slice_get_past [] column (omega arith)))
    (cases_lt row (length (rows_of o)))

left_at : (xs : List ℕ) (i x : ℕ) → slice_get xs i ≡ Some x → drop i xs ≡ x ∷ drop (i + 1) xs
left_at [] i x e = let z : ◌≡◌ {A = ℕ} 0 1 = cc in absurd (omega arith)
left_at (y ∷ xs) zero x e = let s : y ≡ x = cc in ap (λ z. z ∷ xs) s
left_at (y ∷ xs) (suc i) x e = let n : suc i + 1 ≡ suc (i + 1) = omega arith in left_at xs i x e ∙ ap (λ k. x ∷ drop k (y ∷ xs)) (sym n)

none_left : (xs : List ℕ) (i : ℕ) → slice_get xs i ≡ None → drop i xs ≡ []
none_left [] zero e = refl
none_left [] (suc i) e = refl
none_left (x ∷ xs) zero e = let z : ◌≡◌ {A = ℕ} 0 1 = cc in absurd (omega arith)
none_left (x ∷ xs) (suc i) e = none_left xs i e

pub entry_left : (o : Outcome) (row column e : ℕ) → Some e ≡ entry_at o row column → drop column (get_or (rows_of o) row []) ≡ e ∷ drop (column + 1) (get_or (rows_of o) row [])
entry_left o row column e is = left_at (get_or (rows_of o) row []) column e (sym (is ∙ in_row o row column))

pub no_entry_left : (o : Outcome) (row column : ℕ) → None ≡ entry_at o row column → drop column (get_or (rows_of o) row []) ≡ []
no_entry_left o row column is = none_left (get_or (rows_of o) row []) column (sym (is ∙ in_row o row column))
