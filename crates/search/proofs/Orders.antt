-- A rule with its rows in another order.
use Rattle.std.proofs.Common.{◌≡◌, ℕ, zero, suc, ◌<◌, ◌≤◌, List, [], ◌∷◌, sym, refl, ap, ◌∙◌, subst, inl, inr, arith}
use Rattle.rules.specs.declared.term.Term.{Term}
use Rattle.rules.specs.declared.loaded.TermRow.{TermRow}
use Rattle.rules.specs.declared.loaded.LoadedRule.{LoadedRule}
use Rattle.rules.specs.Loaded.{loaded_term, Symbolic}
use Rattle.search.specs.Placings.{place, Lands, Placed, Early, KnownTerm, Groupable, AllAgree, PartedAt, SameRow, arranged, Rearranges, PutsBack}
use Rattle.rules.specs.Rules.{at}

module _ (rel : List (List ℕ)) (rule : LoadedRule) (rows : List TermRow) where
  there : (f : ℕ → ℕ) (i j k : ℕ) → SameRow rule i (arranged rule rows) j → Lands rel rule f i k → Lands rel (arranged rule rows) f j k
  there f i j k same lands = record { within = lands.within; wide = lands.wide; cells = λ c h. ap (at f) (same c h) ∙ lands.cells c h }

  back : (f : ℕ → ℕ) (i j k : ℕ) → SameRow rule i (arranged rule rows) j → Lands rel (arranged rule rows) f j k → Lands rel rule f i k
  back f i j k same lands = record { within = lands.within; wide = lands.wide; cells = λ c h. ap (at f) (sym (same c h)) ∙ lands.cells c h }

  module _ (places : List ℕ) (re : Rearranges rule (arranged rule rows) places) where
    placed_there : (f : ℕ → ℕ) → ((i : ℕ) → i < rule.row_count → Placed rel rule f i) → (j : ℕ) → j < rule.row_count → Placed rel (arranged rule rows) f j
    placed_there f placed j h =
        let (i, hi, same) = re.each j h in
        let (k, lands) = placed i hi in
        (k, there f i j k same lands)

    pub keeps_back : AllAgree rel (arranged rule rows) → AllAgree rel rule
    keeps_back keeps f g pf pg same = keeps f g (placed_there f pf) (placed_there g pg) same

    lands_back : (f : ℕ → ℕ) (p q : List ℕ) → PutsBack places rule.row_count p q → ((j : ℕ) → j < rule.row_count → Lands rel (arranged rule rows) f j (place p j)) → (i : ℕ) → i < rule.row_count → Lands rel rule f i (place q i)
    lands_back f p q puts lands i h =
        let (w, same) = re.back i h in
        subst (Lands rel rule f i) (sym (puts i h)) (back f i (place places i) (place p (place places i)) same (lands (place places i) w))

    pub parted_back : (p q a b : List ℕ) (r x y : ℕ) → PutsBack places rule.row_count p a → PutsBack places rule.row_count q b
        → PartedAt rel (arranged rule rows) p q r x y → PartedAt rel rule a b r x y
    parted_back p q a b r x y pa qb parted = record {
      f = parted.f;
      g = parted.g;
      lands_first = lands_back parted.f p a pa parted.lands_first;
      lands_second = lands_back parted.g q b qb parted.lands_second;
      same = parted.same;
      parts = record { within = parted.parts.within; on_first = parted.parts.on_first; on_second = parted.parts.on_second; differ = parted.parts.differ };
    }

    stands_there : (t : Term) → Early rule rule.row_count t → Early (arranged rule rows) rule.row_count t
    unfolding Early
    stands_there t early = elim early [
      | inl constant ↦ inl constant
      | inr (i, j, hi, hj, e) ↦ let (w, same) = re.back i hi in inr (place places i, j, w, hj, same j hj ∙ e)
    ]

    known-there : (t : Term) → KnownTerm rule t → KnownTerm (arranged rule rows) t
    known-there t known = record { fits = known.fits; stands = stands_there t known.stands }

    pub groupable_there : Groupable rule → Groupable (arranged rule rows)
    groupable_there groupable = record {
      sound = record {
        some = groupable.sound.some;
        rows = groupable.sound.rows;
        width = groupable.sound.width;
        pairs = groupable.sound.pairs;
        terms = λ j hj c hc. let (i, hi, same) = re.each j hj in subst Symbolic (sym (same c hc)) (groupable.sound.terms i hi c hc);
        ones = λ k h. known-there _ (groupable.sound.ones k h);
        others = λ k h. known-there _ (groupable.sound.others k h);
      };
      few = groupable.few;
      left = groupable.left;
      lefts = λ l h. known-there _ (groupable.lefts l h);
      twice = groupable.twice;
    }

-- in their own order
pub in_place : (rule : LoadedRule) → rule.row_count ≤ 4 → Rearranges rule rule (0 ∷ 1 ∷ 2 ∷ 3 ∷ [])
in_place rule few = record { back = λ i h. (subst (λ x. x < rule.row_count) (sym (by_case i (omega arith))) h, λ c k. ap (λ x. loaded_term rule x c) (by_case i (omega arith))); each = λ j h. (j, h, λ c k. refl) }
  where
    by_case : (i : ℕ) → i < 4 → place (0 ∷ 1 ∷ 2 ∷ 3 ∷ []) i ≡ i
    by_case zero h = refl
    by_case (suc zero) h = refl
    by_case (suc (suc zero)) h = refl
    by_case (suc (suc (suc zero))) h = refl
    by_case (suc (suc (suc (suc i)))) h = absurd (omega arith)

-- and in another
module _ (rel : List (List ℕ)) (own rule : LoadedRule) (places : List ℕ) (same : rule ≡ arranged own rule.rows) (order : Rearranges own rule places) where
  re : Rearranges own (arranged own rule.rows) places
  re = subst (λ x. Rearranges own x places) same order

  pub groupable_order : Groupable own → Groupable rule
  groupable_order groupable = subst Groupable (sym same) (groupable_there rel own rule.rows places re groupable)

  pub keeps_order : AllAgree rel rule → AllAgree rel own
  keeps_order agree = keeps_back rel own rule.rows places re (subst (AllAgree rel) same agree)

  pub parted_order : (p q a b : List ℕ) (r x y : ℕ) → PutsBack places own.row_count p a → PutsBack places own.row_count q b → PartedAt rel rule p q r x y → PartedAt rel own a b r x y
  parted_order p q a b r x y pa qb parted = parted_back rel own rule.rows places re p q a b r x y pa qb (subst (λ z. PartedAt rel z p q r x y) same parted)
