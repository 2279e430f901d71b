-- What is read of a text before the places that are left are made blank.
use Rattle.text.specs.Words.{name_of}
use Rattle.std.specs.Prelude.{◌≡◌, List, ℕ, map, length, take, Ok, Err, Result}
use Rattle.std.specs.List.{AllByRecursion}
use Rattle.text.specs.declared.list.Places.{Places}
use Rattle.text.specs.declared.words.Name.{Name}
use Rattle.text.specs.Filled.{items}
use Rattle.reader.specs.declared.fault.ReadFault.{ReadFault}
use Rattle.reader.specs.declared.desk.Lent.{Lent}
use Rattle.reader.specs.declared.desk.Sizes.{Sizes}
use Rattle.reader.specs.Format.{Memo}
use Rattle.reader.specs.Lists.{words_in, Inside, Within}

-- the lists hold the two sheets and the names
pub record Listed (text : List ℕ) (m : Memo) (rs ts : Places ℕ) (ns : Places Name) : Type 0 where
  pub within : Within rs × Within ts × Within ns
  pub rules : items rs ≡ m.rules
  pub targets : items ts ≡ m.targets
  pub names : words_in text (items ns) ≡ m.names
  pub inside : AllByRecursion (Inside text) (items ns)

-- the first places hold them, each name a part of the text
pub record Begun (text : List ℕ) (m : Memo) (r : Sizes) (l : Lent) : Type 0 where
  pub rules : take r.rules l.rules.now ≡ m.rules
  pub targets : take r.targets l.targets.now ≡ m.targets
  pub names : take r.names l.names.now ≡ map name_of m.names
  pub parts : words_in text (map name_of m.names) ≡ m.names
  pub many : (r.rules ≡ length m.rules) × (r.targets ≡ length m.targets) × (r.names ≡ length m.names)

abbrev pub Begins : List ℕ → Result Memo ReadFault → Result Sizes ReadFault → Lent → Type 0
Begins text o (Ok r) l = (m : Memo) × (o ≡ Ok m) × Begun text m r l
Begins text o (Err e) l = o ≡ Err e
