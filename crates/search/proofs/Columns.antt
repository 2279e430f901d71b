-- A column that shows one number.
use Rattle.std.proofs.Common.{◌≡◌, ℕ, ◌+◌, ◌<◌, ◌≤◌, List, [], length, get_or, Some, None, Option, unwrap_or, sym, ◌∙◌, subst, arith, below_more}
use Rattle.rules.specs.declared.loaded.LoadedRule.{LoadedRule}
use Rattle.rules.specs.Loaded.{loaded_term}
use Rattle.search.specs.Placings.{OneValue, Unlike, SoFar}
use Rattle.rules.specs.declared.term.Term.{Term}

module _ (rel : List (List ℕ)) (rule : LoadedRule) where
  -- one more row in the look
  pub so_far_unlike : (i : ℕ) (c : Term) (n : ℕ) (o : Option ℕ) → SoFar rel rule i c n o → Unlike rel rule i n → SoFar rel rule i c (n + 1) o
  so_far_unlike i c n None sofar unlike = below_more _ _ sofar unlike
  so_far_unlike i c n (Some x) sofar unlike = below_more _ _ sofar (λ f lands. absurd (unlike f lands))

  so_far_first : (i j n x : ℕ) → j < rule.width → x ≡ get_or (get_or rel n []) j 0 → SoFar rel rule i (loaded_term rule i j) n None → SoFar rel rule i (loaded_term rule i j) (n + 1) (Some x)
  so_far_first i j n x h e sofar = below_more _ _ (λ k l f lands. absurd (sofar k l f lands)) (λ f lands. lands.cells j h ∙ sym e)

  so_far_same : (i j n x y : ℕ) → j < rule.width → x ≡ get_or (get_or rel n []) j 0 → x ≡ y → SoFar rel rule i (loaded_term rule i j) n (Some y) → SoFar rel rule i (loaded_term rule i j) (n + 1) (Some y)
  so_far_same i j n x y h e is sofar = below_more _ _ sofar (λ f lands. lands.cells j h ∙ sym e ∙ is)

  pub so_far_next : (i j n x : ℕ) (o : Option ℕ) → unwrap_or o x ≡ x → j < rule.width → x ≡ get_or (get_or rel n []) j 0 → SoFar rel rule i (loaded_term rule i j) n o → SoFar rel rule i (loaded_term rule i j) (n + 1) (Some x)
  so_far_next i j n x None is h e sofar = so_far_first i j n x h e sofar
  so_far_next i j n x (Some y) is h e sofar = subst (λ z. SoFar rel rule i (loaded_term rule i j) (n + 1) (Some z)) is (so_far_same i j n x y h e (sym is) sofar)

  pub so_far_all : (i : ℕ) (c : Term) (n : ℕ) (o : Option ℕ) → length rel ≤ n → SoFar rel rule i c n o → OneValue rel rule i c
  so_far_all i c n None all sofar f g (k, lands) _ = absurd (sofar k (omega (arith, lands.within)) f lands)
  so_far_all i c n (Some x) all sofar f g (k, lands) (h, other) = sofar k (omega (arith, lands.within)) f lands ∙ sym (sofar h (omega (arith, other.within)) g other)
