-- What is left to read, as a call finds it and leaves it.
use Rattle.std.specs.Prelude.{◌≡◌, List, ◌++◌, Err, Result, MatchResult}
use Rattle.text.specs.Lines.{lines_from}
use Rattle.reader.specs.declared.desk.Desk.{Desk}
use Rattle.reader.specs.declared.fault.ReadFault.{ReadFault}
use Rattle.reader.specs.Format.{Rooms, Memo, Due, read_lines}
use Rattle.reader.specs.Held.{Sames, held, rooms_of}

-- what comes of the lines from the cursor on, if this is due
abbrev pub going : Rooms → Desk → List Due → Result Memo ReadFault
going rooms d ds = read_lines rooms d.at.line ds (held d) (lines_from d.text.now d.at.from)

-- a call that takes what is due first: what is left to read comes to the same
pub record Takes {A : Type 0} (r : Result A ReadFault) (d e : Desk) (due : List Due) (next : A → List Due) : Type 0 where
  pub same : Sames d e
  pub goes : (rooms : Rooms) → rooms ≡ rooms_of d → (ds : List Due) → MatchResult r (λ x. going rooms d (due ++ ds) ≡ going rooms e (next x ++ ds)) (λ x. going rooms d (due ++ ds) ≡ Err x)
