-- From codes to rules: what is kept, and where it is broken.
use Rattle.std.proofs.Common.{◌≡◌, ℕ, ◌+◌, ◌-◌, ◌<◌, ◌≤◌, List, [], ◌++◌, map, length, get_or, Some, sym, refl, ap, ◌∙◌, subst, arith}
use mathlib.Core.List.{map-map}
use Rattle.std.specs.List.{range_with_len, slice_get}
use Rattle.std.proofs.lemmas.List.FromFn.{length-map-range_with_len, get_or-map-range_with_len}
use Rattle.std.proofs.lemmas.List.{length-map, length-append, get_or-map, get_or_append_left, get_or-append_right}
use Rattle.std.proofs.lemmas.Option.{slice_get-get_or, slice_get_within}
use Rattle.std.proofs.lemmas.Bool.{cond-true}
use Rattle.rules.specs.declared.term.Term.{Term}
use Rattle.rules.specs.declared.term.Term.TheVariants.{Constant}
use Rattle.rules.specs.declared.term.Kind.{Kind}
use Rattle.rules.specs.declared.term.Kind.TheVariants.{Functional, Equality}
use Rattle.rules.specs.declared.loaded.LoadedRule.{LoadedRule}
use Rattle.rules.specs.Rules.{◌∈◌, Relation, Pattern, Valuation, Rule, at, Places, Agree, Keeps}
use Rattle.rules.specs.Books.{WellFormed}
use Rattle.rules.specs.Doubled.{holds, copied, doubled}
use Rattle.rules.specs.Loaded.{loaded_term, left_var, loaded_pair, meant_row, meant, OfBook}
use Rattle.rules.proofs.Copies.{counted-member, member_counted}
use Rattle.rules.proofs.Doubles.{after, at-copied, at_same, doubling}
use Rattle.rules.proofs.Members.{map_on, holds-member}
use Rattle.rules.proofs.Nths.{some_same, nth_member, member_nth, nth_counted, counted_is}
use Rattle.search.specs.declared.spot.Spot.{Spot}
use Rattle.search.proofs.Sounds.{pair_twice}
use Rattle.search.specs.Spots.{Sends, second_from, used, Break}
use Rattle.search.specs.Placings.{place, Lands, AllPlaced, AllJoin, AllAgree, SameLeft, SplitAt, PartedAt}
use Rattle.rules.specs.Rules.{at}

-- what sends rows to places is a placing
pub sends_places : (f : Valuation) (rel : Relation) (p : Pattern) (places : List ℕ) (from : ℕ) → Sends f rel p places from → Places f p rel
sends_places f rel p places from sends row m = let (i, e) = member_nth p row m in nth_member rel (get_or places (from + i) 0) (map (at f) row) (sends i row e)

agree_self : (k : Kind) (left : List ℕ) (f : Valuation) → Agree k left f f
agree_self Functional left f = λ v m. refl
agree_self Equality left f = λ v. refl

module _ (rel : Relation) (l : LoadedRule) where
  row_is : (f : Valuation) (i : ℕ) → map (at f) (meant_row l i) ≡ map (λ j. at f (loaded_term l i j)) (range_with_len 0 l.width)
  row_is f i = map-map (at f) (loaded_term l i) (range_with_len 0 l.width)

  lands_nth : (f : Valuation) (i k : ℕ) → Lands rel l f i k → slice_get rel k ≡ Some (map (at f) (meant_row l i))
  lands_nth f i k lands =
      slice_get-get_or rel k [] lands.within
      ∙ ap Some (sym (row_is f i ∙ counted_is (λ j. at f (loaded_term l i j)) (get_or rel k []) l.width (sym lands.wide) (λ j h. slice_get-get_or (get_or rel k []) j 0 (omega (arith, lands.wide)) ∙ ap Some (sym (lands.cells j h)))))

  nth_lands : (f : Valuation) (i k : ℕ) → slice_get rel k ≡ Some (map (at f) (meant_row l i)) → Lands rel l f i k
  nth_lands f i k e = record {
    within = within;
    wide = ap length row ∙ ap length (row_is f i) ∙ length-map-range_with_len (λ j. at f (loaded_term l i j)) 0 l.width;
    cells = λ j h. sym (ap (λ r. get_or r j 0) (row ∙ row_is f i) ∙ get_or-map-range_with_len (λ j. at f (loaded_term l i j)) 0 l.width j j 0 h (omega arith));
  }
    where
      within : k < length rel
      within = slice_get_within rel k (map (at f) (meant_row l i)) e

      row : get_or rel k [] ≡ map (at f) (meant_row l i)
      row = some_same _ _ (sym (slice_get-get_or rel k [] within) ∙ e)

  placed_all : (f : Valuation) → Places f (meant l).pattern rel → AllPlaced rel l f
  placed_all f places i h =
      let (k, e) = member_nth rel (map (at f) (meant_row l i)) (places (meant_row l i) (counted-member (meant_row l) l.row_count i h)) in
      (k, nth_lands f i k e)

  rows-count : length (meant l).pattern ≡ l.row_count
  rows-count = length-map-range_with_len (meant_row l) 0 l.row_count

  sends : (f : Valuation) (places : List ℕ) (from : ℕ) → ((i : ℕ) → i < l.row_count → Lands rel l f i (get_or places (from + i) 0)) → Sends f rel (meant l).pattern places from
  sends f places from lands i row e =
      let inside : i < l.row_count = omega (arith, slice_get_within (meant l).pattern i row e, rows-count) in
      let is : meant_row l i ≡ row = some_same _ _ (sym (nth_counted (meant_row l) l.row_count i inside) ∙ e) in
      subst (λ x. slice_get rel (get_or places (from + i) 0) ≡ Some (map (at f) x)) is (lands_nth f i (get_or places (from + i) 0) (lands i inside))

  -- an equality rule
  module _ (equality : l.kind ≡ Equality) where
    pub keeps_equality : AllJoin rel l → Keeps rel (meant l)
    keeps_equality joins f g c p m =
        let (k, h, e) = member_counted (loaded_pair l) l.pair_count p m in
        let same = subst (λ x. Agree x (meant l).left f g) equality c.agree in
        subst (λ (x : Term × Term). at f x.0 ≡ at g x.1) e
        (joins f (placed_all f c.first) k h ∙ at_same f g same (loaded_pair l k).1)

    break_equality : (s : Spot) (p : List ℕ) → ((i : ℕ) → i < l.row_count → get_or s.places i 0 ≡ place p i) → ((i : ℕ) → l.row_count ≤ i → get_or s.places i 0 ≡ 0) → SplitAt rel l p s.pair s.one s.other → Break rel (meant l) s
    break_equality s p here rest split = record {
      f = split.f;
      g = split.f;
      compares = record { first = placed; second = placed; agree = agree_self l.kind (meant l).left split.f };
      first_rows = first;
      second_rows = subst (λ k. Sends split.f rel (meant l).pattern s.places (second_from k (length (meant l).pattern))) (sym equality) first;
      unused = λ i h. rest i (subst (λ n. n ≤ i) rows-count (subst (λ k. used k (length (meant l).pattern) ≤ i) equality h));
      sides = loaded_pair l s.pair;
      pair = nth_counted (loaded_pair l) l.pair_count s.pair split.splits.within;
      on_first = split.splits.on_first;
      on_second = split.splits.on_second;
      differ = split.splits.differ;
    }
      where
        first : Sends split.f rel (meant l).pattern s.places 0
        first = sends split.f s.places 0 (λ i h. let z : i ≡ 0 + i = omega arith in subst (Lands rel l split.f i) (sym (here i h) ∙ ap (λ x. get_or s.places x 0) z) (split.lands i h))

        placed : Places split.f (meant l).pattern rel
        placed = sends_places split.f rel (meant l).pattern s.places 0 first

    pub break_split : (s : Spot) (p : List ℕ) (k a b : ℕ) → s.pair ≡ k → s.one ≡ a → s.other ≡ b → ((i : ℕ) → i < l.row_count → get_or s.places i 0 ≡ place p i) → ((i : ℕ) → l.row_count ≤ i → get_or s.places i 0 ≡ 0) → SplitAt rel l p k a b → Break rel (meant l) s
    break_split s p k a b ek ea eb here rest split = break_equality s p here rest (subst (λ x. SplitAt rel l p x s.one s.other) (sym ek) (subst (λ x. SplitAt rel l p k x s.other) (sym ea) (subst (λ x. SplitAt rel l p k a x) (sym eb) split)))

  -- a functional rule
  module _ (functional : l.kind ≡ Functional) (of : OfBook l) where
    pub keeps_functional : AllAgree rel l → Keeps rel (meant l)
    keeps_functional agree f g c p m =
        let (k, h, e) = member_counted (loaded_pair l) l.pair_count p m in
        let same = subst (λ x. Agree x (meant l).left f g) functional c.agree in
        let left : SameLeft l f g = λ j hj. same (left_var l j) (counted-member (left_var l) l.left_count j hj) in
        subst (λ (x : Term × Term). at f x.0 ≡ at g x.1) e
        (agree f g (placed_all f c.first) (placed_all g c.second) left k h ∙ ap (at g) (pair_twice l functional of k h))

    break_functional : (s : Spot) (p q : List ℕ) → ((i : ℕ) → i < l.row_count → get_or s.places i 0 ≡ place p i) → ((i : ℕ) → i < l.row_count → get_or s.places (l.row_count + i) 0 ≡ place q i) → ((i : ℕ) → l.row_count + l.row_count ≤ i → get_or s.places i 0 ≡ 0)
        → PartedAt rel l p q s.pair s.one s.other → Break rel (meant l) s
    break_functional s p q here there rest parted = record {
      f = parted.f;
      g = parted.g;
      compares = record {
        first = sends_places parted.f rel (meant l).pattern s.places 0 first;
        second = sends_places parted.g rel (meant l).pattern s.places l.row_count second;
        agree = subst (λ x. Agree x (meant l).left parted.f parted.g) (sym functional) agree;
      };
      first_rows = first;
      second_rows = subst (λ k. Sends parted.g rel (meant l).pattern s.places (second_from k (length (meant l).pattern))) (sym functional) (subst (Sends parted.g rel (meant l).pattern s.places) (sym rows-count) second);
      unused = λ i h. rest i (subst (λ n. n + n ≤ i) rows-count (subst (λ k. used k (length (meant l).pattern) ≤ i) functional h));
      sides = loaded_pair l s.pair;
      pair = nth_counted (loaded_pair l) l.pair_count s.pair parted.parts.within;
      on_first = parted.parts.on_first;
      on_second = parted.parts.on_second;
      differ = parted.parts.differ;
    }
      where
        first : Sends parted.f rel (meant l).pattern s.places 0
        first = sends parted.f s.places 0 (λ i h. let z : i ≡ 0 + i = omega arith in subst (Lands rel l parted.f i) (sym (here i h) ∙ ap (λ x. get_or s.places x 0) z) (parted.lands_first i h))

        second : Sends parted.g rel (meant l).pattern s.places l.row_count
        second = sends parted.g s.places l.row_count (λ i h. subst (Lands rel l parted.g i) (sym (there i h)) (parted.lands_second i h))

        agree : (v : ℕ) → v ∈ (meant l).left → parted.f v ≡ parted.g v
        agree v m =
            let (j, h, e) = member_counted (left_var l) l.left_count v m in
            subst (λ x. parted.f x ≡ parted.g x) e (parted.same j h)

    pub break_parting : (s : Spot) (p q : List ℕ) (k a b : ℕ) → s.pair ≡ k → s.one ≡ a → s.other ≡ b → ((i : ℕ) → i < l.row_count → get_or s.places i 0 ≡ place p i) → ((i : ℕ) → i < l.row_count → get_or s.places (l.row_count + i) 0 ≡ place q i) → ((i : ℕ) → l.row_count + l.row_count ≤ i → get_or s.places i 0 ≡ 0)
        → PartedAt rel l p q k a b → Break rel (meant l) s
    break_parting s p q k a b ek ea eb here there rest parted = break_functional s p q here there rest (subst (λ x. PartedAt rel l p q x s.one s.other) (sym ek) (subst (λ x. PartedAt rel l p q k x s.other) (sym ea) (subst (λ x. PartedAt rel l p q k a x) (sym eb) parted)))

-- a functional rule by its doubled form
pub keeps_doubled : (w : ℕ) (r : Rule) (rel : Relation) → WellFormed w r → Keeps rel (doubled r) → Keeps rel r
keeps_doubled w r rel fit = (doubling w r fit rel).1

module _ (rel : Relation) (pattern : Pattern) (left : List ℕ) (pairs : List (Term × Term)) where
  abbrev rule : Rule
  rule = record { kind = Functional; pattern = pattern; left = left; pairs = pairs }

  abbrev copies : Pattern
  copies = map (map (copied left)) pattern

  abbrev copied_pair : Term × Term → Term × Term
  copied_pair p = (p.0, copied left p.1)

  nth_first : (i : ℕ) (row : List Term) → slice_get pattern i ≡ Some row → slice_get (pattern ++ copies) i ≡ Some row
  nth_first i row e =
      let inside = slice_get_within pattern i row e in
      let long = length-append pattern copies in
      slice_get-get_or (pattern ++ copies) i [] (omega arith) ∙ ap Some (get_or_append_left pattern copies [] i inside) ∙ sym (slice_get-get_or pattern i [] inside) ∙ e

  nth_second : (i : ℕ) (row : List Term) → slice_get pattern i ≡ Some row → slice_get (pattern ++ copies) (length pattern + i) ≡ Some (map (copied left) row)
  nth_second i row e =
      let inside = slice_get_within pattern i row e in
      let long = length-append pattern copies in
      let twice = length-map pattern (map (copied left)) in
      let back : length pattern + i - length pattern ≡ i = omega arith in
      let is : get_or pattern i [] ≡ row = some_same _ _ (sym (slice_get-get_or pattern i [] inside) ∙ e) in
      slice_get-get_or (pattern ++ copies) (length pattern + i) [] (omega arith)
      ∙ ap Some (get_or-append_right pattern copies (length pattern) (length pattern + i) [] refl (omega arith) ∙ ap (λ x. get_or copies x []) back ∙ get_or-map (map (copied left)) pattern i [] [] inside ∙ ap (map (copied left)) is)

  undoubled : (s : Spot) → Break rel (doubled rule) s → Break rel rule s
  undoubled s b = record {
    f = b.f;
    g = after left b.f;
    compares = record { first = sends_places b.f rel pattern s.places 0 first; second = sends_places (after left b.f) rel pattern s.places (length pattern) second; agree = alike };
    first_rows = first;
    second_rows = second;
    unused = λ i h. let long = length-append pattern copies in let twice = length-map pattern (map (copied left)) in b.unused i (omega arith);
    sides = q;
    pair = slice_get-get_or pairs s.pair none inside;
    on_first = ap (λ (x : Term × Term). at b.f x.0) is ∙ b.on_first;
    on_second = sym (at-copied left b.f q.1) ∙ at_same b.f b.g b.compares.agree (copied left q.1) ∙ ap (λ (x : Term × Term). at b.g x.1) is ∙ b.on_second;
    differ = b.differ;
  }
    where
      none : Term × Term
      none = (Constant 0, Constant 0)

      first : Sends b.f rel pattern s.places 0
      first i row e = b.first_rows i row (nth_first i row e)

      second : Sends (after left b.f) rel pattern s.places (length pattern)
      second i row e =
          let z : length pattern + i ≡ 0 + (length pattern + i) = omega arith in
          ap (λ x. slice_get rel (get_or s.places x 0)) z ∙ b.first_rows (length pattern + i) (map (copied left) row) (nth_second i row e)
          ∙ ap Some (map-map (at b.f) (copied left) row ∙ map_on (λ t. at b.f (copied left t)) (at (after left b.f)) row (λ t _. at-copied left b.f t))

      alike : (v : ℕ) → v ∈ left → b.f v ≡ after left b.f v
      alike v m = sym (ap b.f (cond-true (holds left v) v (32 + v) (holds-member left v m)))

      inside : s.pair < length pairs
      inside = subst (λ n. s.pair < n) (length-map pairs copied_pair) (slice_get_within (map copied_pair pairs) s.pair b.sides b.pair)

      q : Term × Term
      q = get_or pairs s.pair none

      is : copied_pair q ≡ b.sides
      is = some_same _ _ (ap Some (sym (get_or-map copied_pair pairs s.pair none none inside)) ∙ sym (slice_get-get_or (map copied_pair pairs) s.pair none (slice_get_within (map copied_pair pairs) s.pair b.sides b.pair)) ∙ b.pair)

  -- an equality rule is its own doubled form, but for its left variables, which it has none of
  same_break : (s : Spot) → Break rel (doubled (record { kind = Equality; pattern = pattern; left = left; pairs = pairs })) s → Break rel (record { kind = Equality; pattern = pattern; left = left; pairs = pairs }) s
  same_break s b = record {
    f = b.f;
    g = b.g;
    compares = record { first = b.compares.first; second = b.compares.second; agree = b.compares.agree };
    first_rows = b.first_rows;
    second_rows = b.second_rows;
    unused = b.unused;
    sides = b.sides;
    pair = b.pair;
    on_first = b.on_first;
    on_second = b.on_second;
    differ = b.differ;
  }

  undouble_as : (k : Kind) (s : Spot) → Break rel (doubled (record { kind = k; pattern = pattern; left = left; pairs = pairs })) s → Break rel (record { kind = k; pattern = pattern; left = left; pairs = pairs }) s
  undouble_as Functional s b = undoubled s b
  undouble_as Equality s b = same_break s b

pub undouble : (rel : Relation) (r : Rule) (s : Spot) → Break rel (doubled r) s → Break rel r s
undouble rel r s b = undouble_as rel r.pattern r.left r.pairs r.kind s b
