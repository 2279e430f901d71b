-- What is seen of a trial's record.
use Rattle.std.specs.Prelude.{ℕ, map, length, Some, None, Option}
use Rattle.std.proofs.Common.{sym, ap, ◌∙◌}
use mathlib.Core.List.Memᴰ
use Rattle.std.proofs.lemmas.List.{length-map}
use Rattle.std.specs.List.{range_with_len}
use Rattle.std.proofs.lemmas.List.FromFn.{length-map-range_with_len}
use Rattle.rules.specs.Rules.{Relation, OfWidth, Pattern, at}
use Rattle.rules.specs.Loaded.{loaded_term, meant, meant_row}
use Rattle.law.specs.Groups.{State, current, group_count}
use Rattle.law.specs.Stored.{stored}
use Rattle.law.specs.Calls.{Started, View, Blank, Going}
use Rattle.trial.specs.declared.held.Held.{Held}

-- the starting rows, and what the record says that each symbol shows as
abbrev pub rows_of : Held → Pattern
rows_of h = (meant h.target).pattern

abbrev pub shows_of : Held → State
shows_of h = stored h.shown

-- the current rows
abbrev pub rows_now : Held → Relation
rows_now h = current (rows_of h) (shows_of h)

-- how many groups hold a starting symbol and no constant
abbrev pub groups_of : Held → ℕ
groups_of h = group_count (rows_of h) (shows_of h)

abbrev pub going : Held → Started
going h = record { width = h.target.width; rows = rows_of h; pairs = (meant h.target).pairs; shows = shows_of h; merges = h.merges; clashed = h.clashed }

abbrev pub view : Option Held → View
view None = Blank
view (Some h) = Going (going h)

-- each current row has the target's width
pub current_even : (h : Held) → OfWidth h.target.width (rows_now h)
current_even h row m =
    let (terms, k, e) = Memᴰ.of_map (map (at (shows_of h))) (rows_of h) m in
    let (i, k', e') = Memᴰ.of_map (meant_row h.target) (range_with_len 0 h.target.row_count) k in
    sym (ap length e) ∙ length-map terms (at (shows_of h)) ∙ sym (ap length e') ∙ length-map-range_with_len (loaded_term h.target i) 0 h.target.width
