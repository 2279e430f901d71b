-- The rows that are tried.
use Rattle.std.proofs.Common.{◌≡◌, ℕ, ◌+◌, ◌<◌, ◌≤◌, List, [], length, get_or, take, set, sym, refl, ap, ◌∙◌, arith, below_more}
use Rattle.std.proofs.lemmas.List.{ext_get_or, get_or-set_same, get_or-set_other, get_or-take, length-take-le}
use Rattle.search.specs.declared.choices.Choices.TheVariants.{All}
use Rattle.rules.proofs.Fills.{filled_more}
use Rattle.search.specs.Placings.{Distinct, Picks, SameAsOne}

pub rows_same : (rel : List (List ℕ)) (a b w : ℕ) → a < length rel → b < length rel → ((k : ℕ) → k < length rel → length (get_or rel k []) ≡ w) → ((j : ℕ) → j < w → get_or (get_or rel a []) j 0 ≡ get_or (get_or rel b []) j 0) → get_or rel a [] ≡ get_or rel b []
rows_same rel a b w ha hb wide same = ext_get_or 0 (get_or rel a []) (get_or rel b []) (wide a ha ∙ sym (wide b hb)) (λ j h. same j (omega (arith, wide a ha)))

pub picks_all : (rel : List (List ℕ)) (n : ℕ) → n ≡ length rel → Picks rel (All n)
picks_all rel n e = record { few = omega arith; short = tt; within = λ m h. omega arith; each = λ k h. (k, omega arith, refl) }

module _ (rel : List (List ℕ)) (rows : List ℕ) (count n : ℕ) where
  -- one more row, equal to one that was picked
  pub distinct_skip : SameAsOne rel rows count n → Distinct rel rows count n → Distinct rel rows count (n + 1)
  distinct_skip same distinct = record { few = omega (arith, distinct.few); within = distinct.within; each = below_more _ _ distinct.each same }

  -- or not
  pub distinct_new : length rows ≡ 8 → n < 8 → n < length rel → Distinct rel rows count n → Distinct rel (set rows count n) (count + 1) (n + 1)
  distinct_new long few inside distinct = record {
    few = omega (arith, distinct.few);
    within = filled_more (λ m x. x < length rel) 0 rows count n (omega (arith, distinct.few)) inside distinct.within;
    each = below_more _ _ (λ k h. let (m, l, e) = distinct.each k h in (m, omega arith, ap (λ x. get_or rel x []) (get_or-set_other rows count m n 0 (λ q. omega arith)) ∙ e)) (count, omega arith, ap (λ x. get_or rel x []) (get_or-set_same rows count n 0 (omega (arith, distinct.few))));
  }

-- one of the front is one of all
pub same_front : (rel : List (List ℕ)) (rows : List ℕ) (n k : ℕ) → n ≤ length rows → SameAsOne rel (take n rows) (length (take n rows)) k → SameAsOne rel rows n k
same_front rel rows n k few (m, h, e) =
    let long = length-take-le n rows few in
    let inside : m < n = omega arith in
    (m, inside, ap (λ x. get_or rel x []) (sym (get_or-take n rows m 0 inside)) ∙ e)
