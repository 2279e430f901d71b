-- Where the first that passes stands, and how many pass before the first that does not.
use Rattle.std.proofs.Common.{◌≡◌, ℕ, suc, one-add, true, false, ◌+◌, ◌<◌, ◌≤◌, map, [], ◌∷◌, refl, Bool, cond, not, ltb, List, length, Some, None, Option, unwrap_or, ap, ◌∙◌, arith}
use Rattle.std.specs.List.{prefix_len, position, position_or_len}
use Rattle.std.proofs.lemmas.Bool.{cond-true, cond-false}
use Rattle.std.proofs.lemmas.Bool.Decides.{nat_tests}
use Rattle.std.proofs.lemmas.List.Sums.{prefix_len-le-length}

pub place_if_some : {X : Type 0} (p : X → Bool) (xs : List X) (s : ℕ) → position p xs ≡ Some s → (s ≡ position_or_len p xs) × (s < length xs)
place_if_some p xs s e = within (position_or_len p xs) (length xs) e
  where
    within : (n m : ℕ) → cond (ltb n m) (Some n) None ≡ Some s → (s ≡ n) × (s < m)
    within n m h = grind (arith, nat_tests)

pub end_if_none : {X : Type 0} (p : X → Bool) (xs : List X) → position p xs ≡ None → position_or_len p xs ≡ length xs
end_if_none p xs e = within (position_or_len p xs) (length xs) (prefix_len-le-length (λ x. not (p x)) xs) e
  where
    within : (n m : ℕ) → n ≤ m → cond (ltb n m) (Some n) None ≡ None → n ≡ m
    within n m h e = grind (arith, nat_tests)

-- the first that passes, or the end
pub place_or_end : {X : Type 0} (p : X → Bool) (xs : List X) (r : Option ℕ) → r ≡ position p xs → unwrap_or r (length xs) ≡ position_or_len p xs
place_or_end p xs r e =
    let le = prefix_len-le-length (λ x. not (p x)) xs in
    ap (λ o. unwrap_or o (length xs)) e ∙ within (position_or_len p xs) (length xs) le
  where
    within : (n m : ℕ) → n ≤ m → unwrap_or (cond (ltb n m) (Some n) None) m ≡ n
    within n m h = grind (arith, nat_tests)

pub prefix_len-map : {X Y : Type 0} (p : Y → Bool) (f : X → Y) (xs : List X) → prefix_len p (map f xs) ≡ prefix_len (λ x. p (f x)) xs
prefix_len-map p f [] = refl
prefix_len-map p f (x ∷ xs) = ap (λ n. cond (p (f x)) (1 + n) 0) (prefix_len-map p f xs)

pub leading_yes : {X : Type 0} (p : X → Bool) (x : X) (xs : List X) → p x ≡ true → prefix_len p (x ∷ xs) ≡ suc (prefix_len p xs)
leading_yes p x xs e = cond-true (p x) _ _ e ∙ one-add _

pub leading_no : {X : Type 0} (p : X → Bool) (x : X) (xs : List X) → p x ≡ false → prefix_len p (x ∷ xs) ≡ 0
leading_no p x xs e = cond-false (p x) _ _ e
