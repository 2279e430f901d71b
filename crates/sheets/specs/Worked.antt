-- Some sheets that fail, and where.
use Rattle.std.specs.Prelude.{◌≡◌, ℕ, List, [], ◌∷◌, ◌++◌, Ok, Err}
use Rattle.sheets.specs.Walk.{sheet_end}

abbrev pub FailsAt : List ℕ → ℕ → Type 0
FailsAt words p = sheet_end words ≡ Err (record { place = p })

pub record WorkedFaults : Type 0 where
  pub no_words : FailsAt [] 0
  pub wide : FailsAt (9 ∷ 0 ∷ []) 0
  pub no_count : FailsAt (8 ∷ []) 1
  pub no_rule : FailsAt (8 ∷ 1 ∷ []) 2
  pub no_kind : FailsAt (1 ∷ 1 ∷ 3 ∷ 1 ∷ []) 2
  pub no_row : FailsAt (1 ∷ 1 ∷ 1 ∷ 0 ∷ []) 3
  pub no_term : FailsAt (1 ∷ 1 ∷ 1 ∷ 1 ∷ 16777248 ∷ []) 4
  pub equality_left : FailsAt (1 ∷ 1 ∷ 2 ∷ 1 ∷ 16777216 ∷ 1 ∷ 16777216 ∷ 0 ∷ []) 5
  pub other_variable : FailsAt (1 ∷ 1 ∷ 1 ∷ 1 ∷ 16777216 ∷ 1 ∷ 16777217 ∷ 0 ∷ []) 6
  pub constant_left : FailsAt (1 ∷ 1 ∷ 1 ∷ 1 ∷ 7 ∷ 1 ∷ 7 ∷ 0 ∷ []) 6
  pub many_pairs : FailsAt (1 ∷ 1 ∷ 2 ∷ 1 ∷ 7 ∷ 0 ∷ 33 ∷ []) 6
  pub half_pair : FailsAt (1 ∷ 1 ∷ 2 ∷ 1 ∷ 7 ∷ 0 ∷ 1 ∷ 7 ∷ []) 8
  pub passes : sheet_end (1 ∷ 1 ∷ 2 ∷ 1 ∷ 16777216 ∷ 0 ∷ 1 ∷ 7 ∷ 16777216 ∷ 5 ∷ []) ≡ Ok 9

-- A left count can be in range where no left variable can follow: rows without a variable.
-- So the words before a fault are not always the front of some sheet that passes.
abbrev pub FrontOfNone : Type 0
FrontOfNone = (rest : List ℕ) → FailsAt ((1 ∷ 1 ∷ 1 ∷ 1 ∷ 7 ∷ 1 ∷ []) ++ rest) 6
