-- Codes and terms.
use Rattle.std.proofs.Common.{◌≡◌, ℕ, ◌+◌, ◌-◌, ◌<◌, ◌≤◌, ap, ◌∙◌, arith}
use Rattle.std.proofs.lemmas.Bool.{lt-ltb, le-ltb, cond-true, cond-false}
use Rattle.rules.specs.declared.term.Term.TheVariants.{Constant, Variable}
use Rattle.rules.specs.Loaded.{term_of, Codes}

pub term_constant : (c : ℕ) → c < 16777216 → term_of c ≡ Constant c
unfolding term_of
term_constant c h = cond-true _ _ _ (lt-ltb c 16777216 h)

pub term_variable : (c : ℕ) → 16777216 ≤ c → term_of c ≡ Variable (c - 16777216)
unfolding term_of
term_variable c h = cond-false _ _ _ (le-ltb c 16777216 h)

pub code_constant : (c : ℕ) → Codes (Constant c) c
code_constant c small = term_constant c small

pub code_variable : (v : ℕ) → Codes (Variable v) (16777216 + v)
code_variable v small =
    let back : 16777216 + v - 16777216 ≡ v = omega arith in
    term_variable (16777216 + v) (omega arith) ∙ ap Variable back
