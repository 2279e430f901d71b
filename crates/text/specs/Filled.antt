-- What a list over lent places holds.
use Rattle.std.specs.Prelude.{◌≡◌, ℕ, min, List, length, take}
use Rattle.text.specs.declared.list.Places.{Places}

-- the first used places
abbrev pub items : {T : Type 0} → Places T → List T
items l = take l.used l.places.now

-- how many elements it can hold
abbrev pub room : {T : Type 0} → Places T → ℕ
room l = min (length l.places.now) 4096

-- the same places, in another state
pub record Same {T : Type 0} (a b : Places T) : Type 0 where
  pub lent : b.places.ghost_name ≡ a.places.ghost_name
  pub size : length b.places.now ≡ length a.places.now
