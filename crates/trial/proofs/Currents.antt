-- What stands in the current rows.
use Rattle.std.proofs.Common.{◌≡◌, ℕ, ◌<◌, ◌≤◌, map, length, Some, None, sym, ap, ◌∙◌, subst, arith}
use lib.ListN.{length-map}
use Rattle.std.proofs.Math.Bridge.{le_prop}
use Rattle.std.proofs.Math.Logic.{∥∥₁_elim}
use Rattle.std.specs.List.{slice_get}
use Rattle.std.specs.Option.{option_map}
use Rattle.std.proofs.lemmas.List.FromFn.{length-map-range_with_len}
use Rattle.std.proofs.lemmas.Option.{slice_get-map, slice_get_past}
use Rattle.rules.specs.Rules.{at}
use Rattle.rules.specs.Books.{within}
use Rattle.rules.specs.Loaded.{loaded_term, meant_row}
use Rattle.rules.proofs.Nths.{nth_counted}
use Rattle.search.specs.Relations.{entry_at}
use Rattle.trial.specs.declared.held.Held.{Held}
use Rattle.trial.specs.Views.{rows_of, shows_of, rows_now}

module _ (h : Held) where
  pub few_rows : h.target.row_count ≤ 8
  few_rows = ∥∥₁_elim h.form le_prop (λ form. subst (λ n. n ≤ 8) (length-map-range_with_len (meant_row h.target) 0 h.target.row_count) form.few_rows)

  pub small_width : h.target.width ≤ 8
  small_width = ∥∥₁_elim h.form le_prop (λ form. form.small_width)

  pub rows_long : length (rows_now h) ≡ h.target.row_count
  rows_long = length-map (rows_of h) (map (at (shows_of h))) ∙ length-map-range_with_len (meant_row h.target) 0 h.target.row_count

  row_at : (i : ℕ) → i < h.target.row_count → slice_get (rows_now h) i ≡ Some (map (at (shows_of h)) (meant_row h.target i))
  row_at i l =
      slice_get-map (map (at (shows_of h))) (rows_of h) i
      ∙ ap (option_map (map (at (shows_of h)))) (nth_counted (meant_row h.target) h.target.row_count i l)

  row_long : (i : ℕ) → length (map (at (shows_of h)) (meant_row h.target i)) ≡ h.target.width
  row_long i = length-map (meant_row h.target i) (at (shows_of h)) ∙ length-map-range_with_len (loaded_term h.target i) 0 h.target.width

  pub entry-some : (i j : ℕ) → i < h.target.row_count → j < h.target.width → Some (at (shows_of h) (loaded_term h.target i j)) ≡ entry_at (rows_now h) i j
  entry-some i j l k =
      sym (
      ap (λ o. within o (λ row. slice_get row j)) (row_at i l)
      ∙ slice_get-map (at (shows_of h)) (meant_row h.target i) j
      ∙ ap (option_map (at (shows_of h))) (nth_counted (loaded_term h.target i) h.target.width j k)
      )

  pub entry_past : (i j : ℕ) → h.target.row_count ≤ i → None ≡ entry_at (rows_now h) i j
  entry_past i j l = let long = rows_long in sym (ap (λ o. within o (λ row. slice_get row j)) (slice_get_past (rows_now h) i (omega arith)))

  pub entry-wide : (i j : ℕ) → i < h.target.row_count → h.target.width ≤ j → None ≡ entry_at (rows_now h) i j
  entry-wide i j l k =
      let long = row_long i in
      sym (ap (λ o. within o (λ row. slice_get row j)) (row_at i l) ∙ slice_get_past (map (at (shows_of h)) (meant_row h.target i)) j (omega arith))
