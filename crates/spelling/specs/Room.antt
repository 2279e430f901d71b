-- Room: what lines put down with no regard to places, and whether it fits in the lent ones.
use Rattle.std.specs.Prelude.{◌≡◌, ℕ, ◌-◌, ◌<◌, ◌≤◌, min, ◌⊎◌, List, [], ◌∷◌, ◌++◌, length, take, Ok, Err}
use Rattle.text.specs.Lines.{Line, lines_at}
use Rattle.reader.specs.declared.fault.Cause.TheVariants.{Lines}
use Rattle.reader.specs.Format.{endless, Rooms, Memo, Out, Due, then, read_line, whole_text, nothing}
use Rattle.reader.specs.Reads.{Lengths}
use Rattle.spelling.specs.Draft.{Draft, LinesSpell, put_down}

-- of lent places at most 4,096 are used
pub record FitsIn (n : Lengths) (m : Memo) : Type 0 where
  pub rules : length m.rules ≤ min n.rules 4096
  pub targets : length m.targets ≤ min n.targets 4096
  pub names : length m.names ≤ min n.names 4096

-- as many places as are ever used
abbrev pub most : Lengths
most = record { rules = 4096; targets = 4096; names = 4096 }

-- as many places as are wanted
abbrev pub unbounded : Rooms
unbounded = record { rules = endless; targets = endless; names = endless; vars = endless }

-- what lines put down after m, where ds are due; more may be due after them
abbrev pub put_by : List Due → Memo → List Line → Out Memo
put_by ds m [] = Ok m
put_by [] m (l ∷ ls) = Err Lines
put_by (d ∷ ds) m (l ∷ ls) = then (read_line unbounded m l d) (λ s. put_by (s.next ++ ds) s.memo ls)

-- m is what these lines, the first of a text, put down
abbrev pub PutDownBy : List Line → Memo → Type 0
PutDownBy ls m = put_by whole_text nothing ls ≡ Ok m

-- ys begin with xs
abbrev pub Front : {X : Type 0} → List X → List X → Type 0
Front {X} xs ys = (rest : List X) × (ys ≡ xs ++ rest)

pub record Begins (m n : Memo) : Type 0 where
  pub rules : Front m.rules n.rules
  pub targets : Front m.targets n.targets
  pub names : Front m.names n.names

-- the lines of a draft put down what the draft does
abbrev pub WholePutDown : Type 0
WholePutDown = (ls : List Line) (d : Draft) → LinesSpell ls d → PutDownBy ls (put_down d)

-- if lines put something down, so do the first of them, and it begins with that
abbrev pub FirstPutDown : Type 0
FirstPutDown = (ls more : List Line) (n : Memo) → PutDownBy (ls ++ more) n → (m : Memo) × PutDownBy ls m × Begins m n

-- what the lines before line n put down fits in, and with line n it does not
pub record FullAt (text : List ℕ) (lent : Lengths) (n : ℕ) : Type 0 where
  pub short : length text ≤ 65536
  pub some : 1 ≤ n
  pub there : n ≤ length (lines_at 0 text)
  pub before : Memo
  pub after : Memo
  pub put_before : PutDownBy (take (n - 1) (lines_at 0 text)) before
  pub put_after : PutDownBy (take n (lines_at 0 text)) after
  pub fits : FitsIn lent before
  pub full : FitsIn lent after → ⊥

-- the text is too long, or its line n finds no place
abbrev pub NoRoom : List ℕ → Lengths → ℕ → Type 0
NoRoom text lent n = ((n ≡ 0) × (65536 < length text)) ⊎ FullAt text lent n
