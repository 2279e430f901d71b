-- What an output holds, and what a call that puts bytes down leaves there.
use Rattle.std.specs.Prelude.{◌≡◌, ℕ, ◌+◌, ◌<◌, ◌≤◌, List, ◌++◌, length, take, Result, MatchResult}
use Rattle.pieces.specs.declared.output.Output.{Output}
use Rattle.pieces.specs.declared.output.Short.{Short}

-- what is written
abbrev pub written : Output → List ℕ
written o = take o.used o.places.now

-- how many places there are
abbrev pub size : Output → ℕ
size o = length o.places.now

-- the same places, in another state
pub record Same (a b : Output) : Type 0 where
  pub lent : b.places.ghost_name ≡ a.places.ghost_name
  pub long : size b ≡ size a

-- bs fit after what was written, and stand there
pub record Put (a : Output) (bs : List ℕ) (b : Output) : Type 0 where
  pub fits : a.used + length bs ≤ size a
  pub used : b.used ≡ a.used + length bs
  pub holds : written b ≡ written a ++ bs

-- a call on the output `a` put bs down and left `b`, or bs do not fit
pub record Puts (a : Output) (bs : List ℕ) (r : Result (Unit {0}) Short) (b : Output) : Type 0 where
  pub same : Same a b
  pub cases : MatchResult r (λ _. Put a bs b) (λ _. size a < a.used + length bs)
