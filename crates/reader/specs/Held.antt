-- What the reader's lists hold.
use Rattle.std.specs.Prelude.{◌≡◌, ℕ, List, Ok, Err, Result, MatchResult}
use Rattle.std.specs.Borrow.{MutBor}
use Rattle.text.specs.declared.list.Places.{Places}
use Rattle.text.specs.Filled.{items, room, Same}
use Rattle.text.specs.Words.{Word, line_words}
use Rattle.reader.specs.declared.fault.Cause.{Cause}
use Rattle.reader.specs.declared.desk.Desk.{Desk}
use Rattle.reader.specs.Format.{places, Rooms, Memo, Out, Due, Step}
use Rattle.reader.specs.Lists.{words_in}

-- what is put down
abbrev pub held : Desk → Memo
held d = record { width = d.width; part = d.part; rules = items d.rules.now; targets = items d.targets.now; names = words_in d.text.now (items d.names.now); vars = words_in d.text.now (items d.vars.now) }

abbrev pub rooms_of : Desk → Rooms
rooms_of d = record { rules = places (room d.rules.now); targets = places (room d.targets.now); names = places (room d.names.now); vars = places (room d.vars.now) }

-- the words of the line at the cursor, which ends at `end`
abbrev pub words_to : Desk → ℕ → List Word
words_to d end = line_words d.text.now d.at.from end

-- the same list, over the same places, in another state
pub record Stays {T : Type 0} (a b : MutBor (Places T)) : Type 0 where
  pub list : b.ghost_name ≡ a.ghost_name
  pub places : Same a.now b.now

-- the same text and the same lists, in another state
pub record Sames (d e : Desk) : Type 0 where
  pub text : e.text ≡ d.text
  pub rules : Stays d.rules e.rules
  pub targets : Stays d.targets e.targets
  pub names : Stays d.names e.names
  pub vars : Stays d.vars e.vars

-- a call's answer is what a definition gives, at what the call leaves; the cursor stays
pub record Answers {A B : Type 0} (r : Result A Cause) (d e : Desk) (o : Out B) (f : A → B) : Type 0 where
  pub same : Sames d e
  pub at : e.at ≡ d.at
  pub is : MatchResult r (λ x. o ≡ Ok (f x)) (λ x. o ≡ Err x)

abbrev pub stepped : List Due → Memo → Step
stepped ds m = record { next = ds; memo = m }
