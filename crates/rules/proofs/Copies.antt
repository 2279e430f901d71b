-- The second copy of a pattern.
use Rattle.std.proofs.Common.{◌≡◌, ℕ, zero, suc, ◌+◌, ◌-◌, ◌<◌, ◌≤◌, ◌⊎◌, List, [], ◌++◌, map, length, get_or, Some, sym, ap, ◌∙◌, subst, inl, inr, arith}
use mathlib.Core.List.Memᴰ
use Rattle.std.specs.List.{range_with_len, slice_get}
use Rattle.std.proofs.lemmas.Bool.{cases_lt}
use Rattle.std.proofs.lemmas.List.{length-map, length-append, get_or-map, get_or_append_left, get_or-append_right}
use Rattle.std.proofs.lemmas.List.FromFn.{length-map-range_with_len, get_or-map-range_with_len}
use Rattle.std.proofs.lemmas.Option.{slice_get-get_or}
use Rattle.rules.specs.declared.term.Term.{Term}
use Rattle.rules.specs.declared.term.Kind.TheVariants.{Functional, Equality}
use Rattle.rules.specs.declared.loaded.LoadedRule.{LoadedRule}
use Rattle.rules.specs.Rules.{◌∈◌}
use Rattle.rules.specs.Books.{LeftOf, Small}
use Rattle.rules.specs.Doubled.{copied, doubled, doubled_rows_as, doubled_pairs_as}
use Rattle.rules.specs.Loaded.{loaded_term, left_var, loaded_pair, meant_row, meant, OfBook, Sized, no_row, no_term}
use Rattle.rules.proofs.Doubles.{known_small}
use Rattle.rules.proofs.Nths.{nth_member, nth_counted, counted_is}
use Rattle.rules.proofs.Loads.{rule_is}

-- members of a list made from a function of the index
pub counted-member : {X : Type 0} (f : ℕ → X) (n k : ℕ) → k < n → f k ∈ map f (range_with_len 0 n)
counted-member f n k h = nth_member (map f (range_with_len 0 n)) k (f k) (nth_counted f n k h)

counted-index : (a n x : ℕ) → x ∈ range_with_len a n → (a ≤ x) × (x < a + n)
counted-index a zero x m = elim m [ ]
counted-index a (suc n) x m = go (Memᴰ.cases_cons m) (counted-index (a + 1) n x)
  where
    go : (x ≡ a) ⊎ (x ∈ range_with_len (a + 1) n) → (x ∈ range_with_len (a + 1) n → (a + 1 ≤ x) × (x < a + 1 + n)) → (a ≤ x) × (x < a + suc n)
    go (inl e) rest = (omega arith, omega arith)
    go (inr k) rest = let (low, high) = rest k in (omega arith, omega arith)

pub member_counted : {X : Type 0} (f : ℕ → X) (n : ℕ) (x : X) → x ∈ map f (range_with_len 0 n) → (k : ℕ) × (k < n) × (f k ≡ x)
member_counted f n x m = let (k, inside, e) = Memᴰ.of_map f (range_with_len 0 n) m in (k, omega (arith, counted-index 0 n k inside), e)

module _ (l : LoadedRule) (of : OfBook l) where
  pub sized : Sized l
  sized = record {
    width = of.width;
    rows = subst (λ n. n ≤ 4) (length-map-range_with_len (meant_row l) 0 l.row_count) of.fits.few_rows;
    lefts = subst (λ n. n ≤ 32) (length-map-range_with_len (left_var l) 0 l.left_count) of.fits.few_left;
    pairs = subst (λ n. n ≤ 32) (length-map-range_with_len (loaded_pair l) 0 l.pair_count) of.fits.few_pairs;
  }

  pub term_small : (i j : ℕ) → i < l.row_count → j < l.width → Small (loaded_term l i j)
  term_small i j hi hj = of.fits.small (meant_row l i) (counted-member (meant_row l) l.row_count i hi) (loaded_term l i j) (counted-member (loaded_term l i) l.width j hj)

  pub other_small : (k : ℕ) → k < l.pair_count → Small (loaded_pair l k).1
  other_small k h = known_small (meant l).pattern of.fits.small (loaded_pair l k).1 (of.fits.pairs_known (loaded_pair l k) (counted-member (loaded_pair l) l.pair_count k h)).1

-- the doubled form
module _ (l d : LoadedRule) (width : d.width ≡ l.width) (count : d.row_count ≡ l.row_count + l.row_count) (first : (i : ℕ) → i < l.row_count → get_or d.rows i no_row ≡ get_or l.rows i no_row)
    (second : (i : ℕ) → i < l.row_count → (j : ℕ) → j < l.width → loaded_term d (l.row_count + i) j ≡ copied (meant l).left (loaded_term l i j)) where
  first-row : (i : ℕ) → i < l.row_count → meant_row d i ≡ meant_row l i
  first-row i h = ap (λ w. map (λ j. loaded_term d i j) (range_with_len 0 w)) width ∙ ap (λ x. map (λ j. get_or x.terms j no_term) (range_with_len 0 l.width)) (first i h)

  second_row : (i : ℕ) → i < l.row_count → meant_row d (l.row_count + i) ≡ map (copied (meant l).left) (meant_row l i)
  second_row i h =
      ap (λ w. map (loaded_term d (l.row_count + i)) (range_with_len 0 w)) width
      ∙ counted_is (loaded_term d (l.row_count + i)) (map (copied (meant l).left) (meant_row l i)) l.width (sym (length-map (meant_row l i) (copied (meant l).left) ∙ long)) each
    where
      long : length (meant_row l i) ≡ l.width
      long = length-map-range_with_len (loaded_term l i) 0 l.width

      each : (j : ℕ) → j < l.width → slice_get (map (copied (meant l).left) (meant_row l i)) j ≡ Some (loaded_term d (l.row_count + i) j)
      each j hj =
          let wide = long in
          let whole = length-map (meant_row l i) (copied (meant l).left) in
          slice_get-get_or (map (copied (meant l).left) (meant_row l i)) j no_term (omega arith)
          ∙ ap Some (get_or-map (copied (meant l).left) (meant_row l i) j no_term no_term (omega arith) ∙ ap (copied (meant l).left) (get_or-map-range_with_len (loaded_term l i) 0 l.width j j no_term hj (omega arith)) ∙ sym (second i h j hj))

  pub doubled-pattern : map (meant_row d) (range_with_len 0 d.row_count) ≡ (meant l).pattern ++ map (map (copied (meant l).left)) (meant l).pattern
  doubled-pattern =
      counted_is (meant_row d) ((meant l).pattern ++ map (map (copied (meant l).left)) (meant l).pattern) d.row_count (omega (arith, long, once, twice, count)) (λ k h. each k h (cases_lt k l.row_count))
    where
      once : length (meant l).pattern ≡ l.row_count
      once = length-map-range_with_len (meant_row l) 0 l.row_count

      twice : length (map (map (copied (meant l).left)) (meant l).pattern) ≡ length (meant l).pattern
      twice = length-map (meant l).pattern (map (copied (meant l).left))

      long : length ((meant l).pattern ++ map (map (copied (meant l).left)) (meant l).pattern) ≡ length (meant l).pattern + length (map (map (copied (meant l).left)) (meant l).pattern)
      long = length-append (meant l).pattern (map (map (copied (meant l).left)) (meant l).pattern)

      each : (k : ℕ) → k < d.row_count → (k < l.row_count) ⊎ (l.row_count ≤ k) → slice_get ((meant l).pattern ++ map (map (copied (meant l).left)) (meant l).pattern) k ≡ Some (meant_row d k)
      each k h (inl less) =
          slice_get-get_or _ k [] (omega (arith, long, once, twice, count))
          ∙ ap Some (get_or_append_left (meant l).pattern (map (map (copied (meant l).left)) (meant l).pattern) [] k (omega (arith, once)) ∙ get_or-map-range_with_len (meant_row l) 0 l.row_count k k [] less (omega arith) ∙ sym (first-row k less))
      each k h (inr more) =
          let past : k - l.row_count < l.row_count = omega (arith, count) in
          let back : l.row_count + (k - l.row_count) ≡ k = omega arith in
          slice_get-get_or _ k [] (omega (arith, long, once, twice, count))
          ∙ ap Some (get_or-append_right (meant l).pattern (map (map (copied (meant l).left)) (meant l).pattern) l.row_count k [] once more
          ∙ get_or-map (map (copied (meant l).left)) (meant l).pattern (k - l.row_count) [] [] (omega (arith, once, past))
          ∙ ap (map (copied (meant l).left)) (get_or-map-range_with_len (meant_row l) 0 l.row_count (k - l.row_count) (k - l.row_count) [] past (omega arith))
          ∙ sym (second_row (k - l.row_count) past) ∙ ap (meant_row d) back)

abbrev pub copied_pair : List ℕ → Term × Term → Term × Term
copied_pair left p = (p.0, copied left p.1)

module _ (l d : LoadedRule) (count : d.pair_count ≡ l.pair_count) (pairs : (k : ℕ) → k < l.pair_count → loaded_pair d k ≡ copied_pair (meant l).left (loaded_pair l k)) where
  pub doubled-pairs_are : (meant d).pairs ≡ map (copied_pair (meant l).left) (meant l).pairs
  doubled-pairs_are = counted_is (loaded_pair d) (map (copied_pair (meant l).left) (meant l).pairs) d.pair_count (omega (arith, long, once, count)) each
    where
      once : length (meant l).pairs ≡ l.pair_count
      once = length-map-range_with_len (loaded_pair l) 0 l.pair_count

      long : length (map (copied_pair (meant l).left) (meant l).pairs) ≡ length (meant l).pairs
      long = length-map (meant l).pairs (copied_pair (meant l).left)

      each : (k : ℕ) → k < d.pair_count → slice_get (map (copied_pair (meant l).left) (meant l).pairs) k ≡ Some (loaded_pair d k)
      each k h =
          let inside : k < l.pair_count = omega (arith, count) in
          let none : Term × Term = (no_term, no_term) in
          slice_get-get_or _ k none (omega (arith, long, once))
          ∙ ap Some (get_or-map (copied_pair (meant l).left) (meant l).pairs k none none (omega (arith, once))
          ∙ ap (copied_pair (meant l).left) (get_or-map-range_with_len (loaded_pair l) 0 l.pair_count k k none inside (omega arith))
          ∙ sym (pairs k inside))

pub doubled-functional : (l d : LoadedRule) → l.kind ≡ Functional → d.kind ≡ Equality → d.width ≡ l.width → d.row_count ≡ l.row_count + l.row_count → d.left_count ≡ 0 → d.pair_count ≡ l.pair_count
    → ((i : ℕ) → i < l.row_count → get_or d.rows i no_row ≡ get_or l.rows i no_row)
    → ((i : ℕ) → i < l.row_count → (j : ℕ) → j < l.width → loaded_term d (l.row_count + i) j ≡ copied (meant l).left (loaded_term l i j))
    → ((k : ℕ) → k < l.pair_count → loaded_pair d k ≡ copied_pair (meant l).left (loaded_pair l k))
    → meant d ≡ doubled (meant l)
doubled-functional l d functional equality width rows none count first second pairs =
    rule_is (meant d) (doubled (meant l)) equality
    (doubled-pattern l d width rows first second ∙ sym (ap (λ k. doubled_rows_as k (meant l)) functional))
    (ap (λ n. map (left_var d) (range_with_len 0 n)) none)
    (doubled-pairs_are l d count pairs ∙ sym (ap (λ k. doubled_pairs_as k (meant l)) functional))

pub doubled-equality : (l : LoadedRule) → OfBook l → l.kind ≡ Equality → meant l ≡ doubled (meant l)
doubled-equality l of equality =
    rule_is (meant l) (doubled (meant l)) equality
    (sym (ap (λ k. doubled_rows_as k (meant l)) equality))
    (subst (λ k. LeftOf k (meant l).left) equality of.fits.left_fits)
    (sym (ap (λ k. doubled_pairs_as k (meant l)) equality))
