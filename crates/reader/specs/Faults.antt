-- The refusal that the fault of a reader is.
use Rattle.std.specs.Prelude.{ℕ}
use Rattle.rules.specs.declared.refusal.Refusal.{Refusal}
use Rattle.rules.specs.declared.refusal.Layer.TheVariants.{Reader}
use Rattle.reader.specs.declared.fault.Cause.{Cause}
use Rattle.reader.specs.declared.fault.Cause.TheVariants.{Byte, Form, Count, Unknown, Room, Lines}
use Rattle.reader.specs.declared.fault.ReadFault.{ReadFault}

-- the number of each cause
abbrev pub cause_number : Cause → ℕ
cause_number Byte = 1
cause_number Form = 2
cause_number Count = 3
cause_number Unknown = 4
cause_number Room = 5
cause_number Lines = 6

-- its place is the line, or 0 for the text as a whole
abbrev pub read_refusal : ReadFault → Refusal
read_refusal f = record { number = cause_number f.cause; layer = Reader; place = f.line }
