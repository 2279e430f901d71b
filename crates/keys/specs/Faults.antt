-- The faults of a key list.
use Rattle.std.specs.Prelude.{◌≡◌, ℕ, ◌+◌, ◌%◌, ◌^◌, ◌<◌, ◌≤◌, cond, ◌||◌, List, [], ◌∷◌, length, Ok, Err, Result, ◌==◌, nat_lt, slice_index}
use Rattle.rules.specs.declared.fault.BookFault.{BookFault}
use Rattle.keys.specs.Keys.{HasBit, Narrow, SoundKeys}

abbrev pub Checked : Type 0
Checked = Result (Unit {0}) BookFault

abbrev pub fault_at : ℕ → Checked
fault_at place = Err (record { place = place })

-- the tests of the width and of the number of bytes
abbrev pub shaped : ℕ → ℕ → Checked
shaped width count =
    cond (nat_lt width 1 || nat_lt 8 width) (fault_at 0)
    (cond (nat_lt 512 count) (fault_at 512)
    (cond (count % 2 == 0) (Ok tt) (fault_at count)))

-- the tests of the bytes, the first of which has this place
abbrev pub low_from : ℕ → List ℕ → ℕ → Checked
low_from limit [] place = Ok tt
low_from limit (byte ∷ bytes) place = cond (nat_lt byte limit) (low_from limit bytes (place + 1)) (fault_at place)

-- then, unless there is a fault
abbrev pub and_then : Checked → Checked → Checked
and_then (Ok u) next = next
and_then (Err f) next = Err f

-- the check, test by test; what it comes to in plain words is FirstFault
abbrev pub checked : ℕ → List ℕ → Checked
checked width bytes = and_then (shaped width (length bytes)) (low_from (2 ^ width) bytes 0)

-- the byte has a bit at or above the width
abbrev pub High : ℕ → ℕ → Type 0
High width byte = (j : ℕ) × (width ≤ j) × HasBit byte j

-- what fails first, and its place: the width, the number of bytes, a byte without its other, or a byte with a bit
-- that stands for no column, where no byte before it has one
pub data FirstFault (width : ℕ) (bytes : List ℕ) (place : ℕ) : Type 0 where
  of_width : (Narrow width → ⊥) → place ≡ 0 → FirstFault width bytes place
  of_number : Narrow width → 512 < length bytes → place ≡ 512 → FirstFault width bytes place
  of_pairing : Narrow width → length bytes ≤ 512 → length bytes % 2 ≡ 1 → place ≡ length bytes → FirstFault width bytes place
  of_byte : Narrow width → length bytes ≤ 512 → length bytes % 2 ≡ 0 → place < length bytes →
      High width (slice_index bytes place) → ((i : ℕ) → i < place → High width (slice_index bytes i) → ⊥) → FirstFault width bytes place

-- what the check's answer tells of a key list: it is sound, or the place is that of its first fault
abbrev pub Says : ℕ → List ℕ → Checked → Type 0
Says width bytes (Ok u) = SoundKeys width bytes
Says width bytes (Err f) = FirstFault width bytes f.place × (SoundKeys width bytes → ⊥)
