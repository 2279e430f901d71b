-- What a relation answers.
use Rattle.std.specs.Prelude.{ℕ, List, map, length, Option, slice_index}
use Rattle.std.proofs.Common.{sym, ap, ◌∙◌}
use mathlib.Core.List.Memᴰ
use Rattle.std.specs.List.{range_with_len, slice_get}
use Rattle.std.proofs.lemmas.List.FromFn.{length-map-range_with_len}
use Rattle.rules.specs.Rules.{Relation, OfWidth}
use Rattle.rules.specs.Books.{within}
use Rattle.search.specs.declared.row.Row.{Row}

-- a relation with its width, which one without rows has too
pub record RelationMeaning : Type 0 where
  pub width : ℕ
  pub rows : Relation

-- what stands in a row and column; none past an end
abbrev pub entry_at : Relation → ℕ → ℕ → Option ℕ
entry_at rows k j = within (slice_get rows k) (λ row. slice_get row j)

-- the first `width` entries of a row
abbrev pub front : ℕ → Row → List ℕ
front width r = map (λ j. slice_index r.entries j) (range_with_len 0 width)

abbrev pub cut : ℕ → List Row → Relation
cut width rows = map (front width) rows

pub cut_even : (width : ℕ) (rows : List Row) → OfWidth width (cut width rows)
cut_even width rows row m =
    let (r, k, e) = Memᴰ.of_map (front width) rows m in
    sym (ap length e) ∙ length-map-range_with_len (λ j. slice_index r.entries j) 0 width
