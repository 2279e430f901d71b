-- What writing parts one after another leaves.
use Rattle.std.specs.Prelude.{◌≡◌, ℕ, ◌+◌, ◌-◌, ◌<◌, ◌≤◌, List, ◌++◌, length, take, replicate, Ok, Err, Result, MatchResult}
use Rattle.pieces.specs.declared.output.Output.{Output}
use Rattle.pieces.specs.Put.{written, size, Same, Put}
use Rattle.writing.specs.Fitting.{whole}

-- part k is the first that does not fit after what is written
pub record Past (a : Output) (ps : List (List ℕ)) (k : ℕ) : Type 0 where
  pub listed : k < length ps
  pub before : a.used + length (whole (take k ps)) ≤ size a
  pub past : size a < a.used + length (whole (take (k + 1) ps))

-- the parts are put down, or one of them does not fit
pub record Fills {E : Type 0} (short : ℕ → E) (a : Output) (ps : List (List ℕ)) (r : Result (Unit {0}) E) (b : Output) : Type 0 where
  pub same : Same a b
  pub cases : MatchResult r (λ _. Put a (whole ps) b) (λ e. (k : ℕ) × (e ≡ short k) × Past a ps k)

-- an output is closed: after a refusal all places are zero, else those after what is written
abbrev pub closed_answer : {E : Type 0} → Output → Result (Unit {0}) E → Result ℕ E
closed_answer a (Ok u) = Ok a.used
closed_answer a (Err e) = Err e

abbrev pub closed_places : {E : Type 0} → Output → Result (Unit {0}) E → List ℕ
closed_places a (Ok u) = written a ++ replicate (size a - a.used) 0
closed_places a (Err e) = replicate (size a) 0
