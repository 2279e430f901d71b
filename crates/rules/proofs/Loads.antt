-- What was read out of a book is the rule that stands there.
use Rattle.std.proofs.Common.{◌≡◌, ℕ, zero, suc, ◌<◌, ◌≤◌, ◌⊎◌, List, [], map, length, get_or, Some, None, Option, sym, refl, ap, ◌∙◌, subst, inl, inr, arith}
use Rattle.std.specs.List.{range_with_len, slice_get}
use Rattle.std.specs.Option.{option_map}
use Rattle.std.proofs.lemmas.Option.{slice_get-get_or, slice_get_within, get_or_from_slice_get}
use Rattle.std.proofs.lemmas.Bool.{cases_lt}
use Rattle.rules.specs.declared.term.Term.{Term}
use Rattle.rules.specs.declared.term.Kind.{Kind}
use Rattle.rules.specs.declared.term.Kind.TheVariants.{Equality}
use Rattle.rules.specs.declared.loaded.LoadedRule.{LoadedRule}
use Rattle.rules.specs.Rules.{◌∈◌, Rule}
use Rattle.rules.specs.Books.{BookMeaning, within, kind_at, rows_at, term_at, left_at, pair_at, WellFormed, WellFormedBook}
use Rattle.rules.specs.Loaded.{no_term, loaded_term, meant_row, meant, Filled, Loaded}
use Rattle.rules.proofs.Nths.{some_same, some_none, nth_member, nth_none, counted_is}

abbrev no_rule : Rule
no_rule = record { kind = Equality; pattern = []; left = []; pairs = [] }

pub rule_is : (a b : Rule) → a.kind ≡ b.kind → a.pattern ≡ b.pattern → a.left ≡ b.left → a.pairs ≡ b.pairs → a ≡ b
rule_is a b ek ep el eq =
    ap (λ (k : Kind). record { kind = k; pattern = a.pattern; left = a.left; pairs = a.pairs }) ek
    ∙ ap (λ (p : List (List Term)). record { kind = b.kind; pattern = p; left = a.left; pairs = a.pairs }) ep
    ∙ ap (λ (l : List ℕ). record { kind = b.kind; pattern = b.pattern; left = l; pairs = a.pairs }) el
    ∙ ap (λ (q : List (Term × Term)). record { kind = b.kind; pattern = b.pattern; left = b.left; pairs = q }) eq

module _ (b : BookMeaning) (well : WellFormedBook b) (i : ℕ) (l : LoadedRule) (r : Rule) (there : slice_get b.rules i ≡ Some r) (width : l.width ≡ b.width) where
  fit : WellFormed b.width r
  fit = well.rules_fit r (nth_member b.rules i r there)

  module _ (terms : (a : ℕ) → a < 4 → (j : ℕ) → j < 8 → (t : Term) → term_at b.rules i a j ≡ Some t → loaded_term l a j ≡ t) where
    row_is : (a : ℕ) (row : List Term) → a < 4 → slice_get r.pattern a ≡ Some row → meant_row l a ≡ row
    row_is a row h e = counted_is (loaded_term l a) row l.width (width ∙ sym (fit.of_width row member)) each
      where
        member : row ∈ r.pattern
        member = nth_member r.pattern a row e

        each : (j : ℕ) → j < l.width → slice_get row j ≡ Some (loaded_term l a j)
        each j k =
            let wide = fit.of_width row member in
            let small = well.small_width in
            let t = get_or row j no_term in
            let at : slice_get row j ≡ Some t = slice_get-get_or row j no_term (omega arith) in
            let asked : term_at b.rules i a j ≡ Some t =
            ap (λ (o : Option Rule). within o (λ q. within (slice_get q.pattern a) (λ x. slice_get x j))) there ∙ ap (λ (o : Option (List Term)). within o (λ x. slice_get x j)) e ∙ at in
            at ∙ ap Some (sym (terms a h j (omega arith) t asked))

    pattern_is : rows_at b.rules i ≡ Some l.row_count → map (meant_row l) (range_with_len 0 l.row_count) ≡ r.pattern
    pattern_is rows = counted_is (meant_row l) r.pattern l.row_count long (λ a h.
        let few = fit.few_rows in
        let at : slice_get r.pattern a ≡ Some (get_or r.pattern a []) = slice_get-get_or r.pattern a [] (omega (arith, long)) in
        at ∙ ap Some (sym (row_is a (get_or r.pattern a []) (omega (arith, long)) at)))
      where
        long : l.row_count ≡ length r.pattern
        long = some_same _ _ (sym rows ∙ ap (option_map (λ (q : Rule). length q.pattern)) there)

  loaded_is : meant l ≡ r → Loaded b i l
  loaded_is e = record {
    is = there ∙ ap Some (sym e);
    width = width;
    of_book = record { width = subst (λ w. w ≤ 8) (sym width) well.small_width; fits = subst (λ w. WellFormed w (meant l)) (sym width) (subst (WellFormed b.width) (sym e) fit) };
  }

-- the places that were filled with what stands in a list
pub filled_is : {X : Type 0} (d : X) (asks : ℕ → Option X → Type 0) (xs places : List X) (count : ℕ) → ((k : ℕ) (o : Option X) → asks k o → o ≡ slice_get xs k) → length xs ≤ length places → Filled asks places count → map (λ k. get_or places k d) (range_with_len 0 count) ≡ xs
filled_is {X = X} d asks xs places count says few f = counted_is (λ k. get_or places k d) xs count (omega (arith, low (cases_lt count (length places)), high count f.each)) there
  where
    there : (k : ℕ) → k < count → slice_get xs k ≡ Some (get_or places k d)
    there k h = let (x, asked, e) = f.each k h in sym (says k (Some x) asked) ∙ ap Some (sym (get_or_from_slice_get places k x d e))

    low : (count < length places) ⊎ (length places ≤ count) → length xs ≤ count
    low (inl h) = nth_none d xs count (sym (says count None (f.all h)))
    low (inr h) = omega arith

    high : (n : ℕ) → ((k : ℕ) → k < n → (x : X) × asks k (Some x) × (slice_get places k ≡ Some x)) → n ≤ length xs
    high zero each = omega arith
    high (suc n) each = let (x, asked, e) = each n (omega arith) in omega (arith, slice_get_within xs n x (sym (says n (Some x) asked)))

pub loaded : (b : BookMeaning) → WellFormedBook b → (i : ℕ) (l : LoadedRule) → kind_at b.rules i ≡ Some l.kind → rows_at b.rules i ≡ Some l.row_count → l.width ≡ b.width
    → ((a : ℕ) → a < 4 → (j : ℕ) → j < 8 → (t : Term) → term_at b.rules i a j ≡ Some t → loaded_term l a j ≡ t)
    → length l.left ≡ 32 → length l.pairs ≡ 32
    → {asks : ℕ → Option ℕ → Type 0} → ((k : ℕ) (o : Option ℕ) → asks k o → o ≡ left_at b.rules i k) → Filled asks l.left l.left_count
    → {says : ℕ → Option (Term × Term) → Type 0} → ((k : ℕ) (o : Option (Term × Term)) → says k o → o ≡ pair_at b.rules i k) → Filled says l.pairs l.pair_count
    → Loaded b i l
loaded b well i l kind rows width terms lefts pairs asks left says pair = go (slice_get b.rules i) refl
  where
    go : (o : Option Rule) → slice_get b.rules i ≡ o → Loaded b i l
    go None e = absurd (some_none _ (sym kind ∙ ap (option_map (λ (r : Rule). r.kind)) e))
    go (Some r) e =
        let fits = well.rules_fit r (nth_member b.rules i r e) in
        loaded_is b well i l r e width (rule_is (meant l) r (some_same _ _ (sym kind ∙ ap (option_map (λ (q : Rule). q.kind)) e)) (pattern_is b well i l r e width terms rows)
        (filled_is 0 _ r.left l.left l.left_count (λ k o a. asks k o a ∙ ap (λ (o : Option Rule). within o (λ q. slice_get q.left k)) e) (omega (arith, fits.few_left)) left)
        (filled_is (no_term, no_term) _ r.pairs l.pairs l.pair_count (λ k o a. says k o a ∙ ap (λ (o : Option Rule). within o (λ q. slice_get q.pairs k)) e) (omega (arith, fits.few_pairs)) pair))
