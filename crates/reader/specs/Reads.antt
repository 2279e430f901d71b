-- What the lent places hold in the end.
use Rattle.std.specs.Prelude.{◌≡◌, ℕ, ◌-◌, min, List, ◌++◌, map, length, replicate, Ok, Err, Result}
use Rattle.text.specs.declared.words.Name.{Name}
use Rattle.text.specs.Words.{name_of}
use Rattle.reader.specs.declared.fault.ReadFault.{ReadFault}
use Rattle.reader.specs.declared.desk.Lent.{Lent}
use Rattle.reader.specs.declared.desk.Sizes.{Sizes}
use Rattle.reader.specs.Format.{places, Rooms, Memo}
use Rattle.reader.specs.Lists.{words_in}

-- how many places are lent
pub record Lengths : Type 0 where
  pub rules : ℕ
  pub targets : ℕ
  pub names : ℕ

abbrev pub lengths_of : List ℕ → List ℕ → List Name → Lengths
lengths_of rs ts ns = record { rules = length rs; targets = length ts; names = length ns }

abbrev pub lengths : Lent → Lengths
lengths l = lengths_of l.rules.now l.targets.now l.names.now

-- the same lent places, in another state
pub record SamePlaces (a b : Lent) : Type 0 where
  pub rules : b.rules.ghost_name ≡ a.rules.ghost_name
  pub targets : b.targets.ghost_name ≡ a.targets.ghost_name
  pub names : b.names.ghost_name ≡ a.names.ghost_name
  pub sizes : lengths b ≡ lengths a

-- of lent places at most 4,096 are used; a rule has at most 32 variables
abbrev pub rooms_in : Lengths → Rooms
rooms_in n = record { rules = places (min n.rules 4096); targets = places (min n.targets 4096); names = places (min n.names 4096); vars = places 32 }

abbrev pub no_name : Name
no_name = record { place = 0; length = 0 }

-- xs in the first places, and the rest blank
abbrev pub padded : {X : Type 0} → ℕ → X → List X → List X
padded size blank xs = xs ++ replicate (size - length xs) blank

-- the places hold the two sheets and the names, each name a part of the text, and else zero
pub record Holds (text : List ℕ) (n : Lengths) (m : Memo) (r : Sizes) (rs ts : List ℕ) (ns : List Name) : Type 0 where
  pub rules : rs ≡ padded n.rules 0 m.rules
  pub targets : ts ≡ padded n.targets 0 m.targets
  pub names : ns ≡ padded n.names no_name (map name_of m.names)
  pub parts : words_in text (map name_of m.names) ≡ m.names
  pub many : (r.rules ≡ length m.rules) × (r.targets ≡ length m.targets) × (r.names ≡ length m.names)

-- all places are zero
pub record Blank (n : Lengths) (rs ts : List ℕ) (ns : List Name) : Type 0 where
  pub rules : rs ≡ replicate n.rules 0
  pub targets : ts ≡ replicate n.targets 0
  pub names : ns ≡ replicate n.names no_name

-- what is read of a text is put down, and after a refusal nothing is
abbrev pub Reads : List ℕ → Lengths → Result Memo ReadFault → Result Sizes ReadFault → List ℕ → List ℕ → List Name → Type 0
Reads text n o (Ok r) rs ts ns = (m : Memo) × (o ≡ Ok m) × Holds text n m r rs ts ns
Reads text n o (Err e) rs ts ns = (o ≡ Err e) × Blank n rs ts ns
