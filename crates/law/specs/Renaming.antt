-- Numbers of a relation under other names.
use Rattle.std.specs.Prelude.{◌≡◌, ℕ, ◌<◌, ◌≤◌, ◌↔◌, List, [], ◌∷◌, ◌++◌, map}
use Rattle.rules.specs.Rules.{◌∈◌, Relation, Rule, Keeps}
use Rattle.rules.specs.Books.{base, WellFormed}

-- the numbers that stand in a relation, with repeats
abbrev pub numbers : Relation → List ℕ
numbers [] = []
numbers (row ∷ rel) = row ++ numbers rel

-- a renaming of a relation's numbers: it keeps different numbers different, and moves no constant
pub record Renaming (F : ℕ → ℕ) (rel : Relation) : Type 0 where
  pub injective : (m n : ℕ) → m ∈ numbers rel → n ∈ numbers rel → F m ≡ F n → m ≡ n
  pub constants : (c : ℕ) → c < base → F c ≡ c
  pub unknowns : (n : ℕ) → base ≤ n → base ≤ F n

-- Keeping a rule is unmoved by a renaming.
abbrev pub KeepingUnmoved : Type 0
KeepingUnmoved =
    (F : ℕ → ℕ) (rel : Relation) → Renaming F rel → (width : ℕ) (r : Rule) → WellFormed width r → Keeps rel r ↔ Keeps (map (map F) rel) r
