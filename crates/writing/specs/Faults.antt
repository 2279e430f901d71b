-- The refusal that the fault of a report is.
use Rattle.std.specs.Prelude.{ℕ}
use Rattle.rules.specs.declared.refusal.Refusal.{Refusal}
use Rattle.rules.specs.declared.refusal.Layer.TheVariants.{Report}
use Rattle.writing.specs.declared.room.TooShort.{TooShort}

-- the fault at a part
abbrev pub short_at : ℕ → TooShort
short_at k = record { place = k }

abbrev pub short_refusal : TooShort → Refusal
short_refusal f = record { number = 13; layer = Report; place = f.place }
