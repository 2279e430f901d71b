-- A pass over what the symbols show as.
use Rattle.std.proofs.Common.{◌≡◌, ℕ, ◌<◌, cond, eqb, List, length, get_or, sym, ◌∙◌, arith}
use lib.ListN.{length-map}
use Rattle.std.proofs.lemmas.List.FromFn.{fill_by_all}
use Rattle.std.proofs.lemmas.List.{get_or-map}
use Rattle.law.specs.Stored.{replaced}

abbrev pub changed : ℕ → ℕ → ℕ → ℕ
changed one other n = cond (eqb n one) other n

pub passed : (one other : ℕ) (shown after : List ℕ) → length shown ≡ 64 → length after ≡ 64 → ((k : ℕ) → k < 64 → get_or after k 0 ≡ changed one other (get_or shown k 0)) → after ≡ replaced one other shown
passed one other shown after long long' each =
    fill_by_all (λ k. changed one other (get_or shown k 0)) after 64 0 long' each
    ∙ sym (fill_by_all (λ k. changed one other (get_or shown k 0)) (replaced one other shown) 64 0 (length-map shown (changed one other) ∙ long) (λ k h. get_or-map (changed one other) shown k 0 0 (omega arith)))
