-- What a relation answers, and what stands past its end.
use Rattle.std.proofs.Common.{◌≡◌, ℕ, zero, suc, ◌<◌, ◌≤◌, List, [], ◌∷◌, length, get_or, Some, None, unwrap_or, sym, refl, ap, ◌∙◌, arith}
use Rattle.std.specs.List.{slice_get}
use Rattle.std.proofs.lemmas.List.FromFn.{length-map-range_with_len, get_or-map-range_with_len}
use Rattle.std.proofs.lemmas.List.{length-map, get_or-map}
use Rattle.std.proofs.lemmas.Option.{slice_get-get_or, slice_get_past, unwrap_or-slice_get}
use Rattle.rules.proofs.Nths.{nth_member}
use Rattle.rules.specs.Books.{within}
use Rattle.rules.specs.Rules.{Relation, OfWidth}
use Rattle.search.specs.declared.row.Row.{Row}
use Rattle.search.specs.Relations.{entry_at, front, cut}

-- what stands outside a relation reads as 0
pub entry_default : (rel : Relation) (k j : ℕ) → unwrap_or (entry_at rel k j) 0 ≡ get_or (get_or rel k []) j 0
entry_default [] k j = refl
entry_default (r ∷ rs) zero j = unwrap_or-slice_get r j 0
entry_default (r ∷ rs) (suc k) j = entry_default rs k j

pub fitting : (w : ℕ) (rel : Relation) → OfWidth w rel → (k : ℕ) → k < length rel → length (get_or rel k []) ≡ w
fitting w rel even k h = even (get_or rel k []) (nth_member rel k (get_or rel k []) (slice_get-get_or rel k [] h))

-- lent rows
abbrev no_row : Row
no_row = record { entries = [] }

module _ (width : ℕ) (rows : List Row) where
  cut-row : (k : ℕ) → k < length rows → slice_get (cut width rows) k ≡ Some (front width (get_or rows k no_row))
  cut-row k h =
      let long = length-map rows (front width) in
      slice_get-get_or (cut width rows) k [] (omega arith) ∙ ap Some (get_or-map (front width) rows k no_row [] h)

  front-entry : (k j : ℕ) → j < width → slice_get (front width (get_or rows k no_row)) j ≡ Some (get_or (get_or rows k no_row).entries j 0)
  front-entry k j h =
      let long = length-map-range_with_len (λ j. get_or (get_or rows k no_row).entries j 0) 0 width in
      slice_get-get_or (front width (get_or rows k no_row)) j 0 (omega arith) ∙ ap Some (get_or-map-range_with_len (λ j. get_or (get_or rows k no_row).entries j 0) 0 width j j 0 h (omega arith))

  pub cut-some : (k j : ℕ) → k < length rows → j < width → Some (get_or (get_or rows k no_row).entries j 0) ≡ entry_at (cut width rows) k j
  cut-some k j h l = sym (ap (λ o. within o (λ row. slice_get row j)) (cut-row k h) ∙ front-entry k j l)

  pub cut-past : (k j : ℕ) → length rows ≤ k → None ≡ entry_at (cut width rows) k j
  cut-past k j h = let long = length-map rows (front width) in sym (ap (λ o. within o (λ row. slice_get row j)) (slice_get_past (cut width rows) k (omega arith)))

  pub cut-wide : (k j : ℕ) → k < length rows → width ≤ j → None ≡ entry_at (cut width rows) k j
  cut-wide k j h l =
      let long = length-map-range_with_len (λ j. get_or (get_or rows k no_row).entries j 0) 0 width in
      sym (ap (λ o. within o (λ row. slice_get row j)) (cut-row k h) ∙ slice_get_past (front width (get_or rows k no_row)) j (omega arith))
