-- Where symbols stand, and what a placing's valuation gives.
use Rattle.std.proofs.Common.{◌≡◌, ℕ, ◌+◌, ◌<◌, ◌≤◌, ◌⊎◌, List, [], length, get_or, set, replicate, sym, refl, ap, ◌∙◌, subst, inl, inr, arith, below_more}
use Rattle.std.proofs.lemmas.List.{get_or-set_same, get_or-set_other, get_or-replicate}
use Rattle.std.proofs.lemmas.Bool.{cases_eq}
use Rattle.rules.specs.declared.term.Term.{Term}
use Rattle.rules.specs.declared.term.Term.TheVariants.{Constant, Variable}
use Rattle.search.specs.Placings.{slot, no_slot, filled, place, Cells, Lands, Early, Origin, Origins, RowsFit, Own, Leaves, Planned, tests_at, column_at}
use Rattle.rules.specs.Rules.{at}
use Rattle.rules.specs.declared.loaded.LoadedRule.{LoadedRule}
use Rattle.rules.specs.Loaded.{loaded_term}
use Rattle.search.specs.declared.plan.Plan.{Plan}
use Rattle.search.specs.declared.plan.Tests.{Tests}

pub rows_none : (rule : LoadedRule) (t : List Tests) → 0 < rule.row_count → RowsFit rule (record { origin = replicate 64 no_slot; tests = t })
rows_none rule t some s h = subst (λ t. t.row < rule.row_count) (sym (get_or-replicate 64 s no_slot no_slot h)) some

module _ (rel : List (List ℕ)) (rule : LoadedRule) (plan : Plan) (origins : Origins rule plan) where
  -- the placing's valuation is that of anything that sends the rows there
  pub filled_is : (p : List ℕ) (f : ℕ → ℕ) (n : ℕ) → n ≤ rule.row_count → ((i : ℕ) → i < n → Lands rel rule f i (place p i)) → (i j : ℕ) → i < n → j < rule.width → at (filled rel plan p) (loaded_term rule i j) ≡ at f (loaded_term rule i j)
  filled_is p f n all lands i j hi hj = by_case (loaded_term rule i j) refl
    where
      by_case : (t : Term) → loaded_term rule i j ≡ t → at (filled rel plan p) t ≡ at f t
      by_case (Constant c) e = refl
      by_case (Variable s) e =
          let o = origins i (omega arith) (omega arith) j hj s e in
          sym ((lands (slot plan s).row (omega (arith, o.early))).cells (slot plan s).column o.inside) ∙ ap (at f) o.here

  -- the same of a term that stands in these rows
  pub filled-early : (p : List ℕ) (f : ℕ → ℕ) (n : ℕ) → n ≤ rule.row_count → ((i : ℕ) → i < n → Lands rel rule f i (place p i)) → (t : Term) → Early rule n t → at f t ≡ at (filled rel plan p) t
  unfolding Early
  filled-early p f n all lands t early = elim early [
    | inl (c, e) ↦ ap (at f) e ∙ sym (ap (at (filled rel plan p)) e)
    | inr (i, j, hi, hj, e) ↦ sym (ap (at f) e) ∙ sym (filled_is p f n all lands i j hi hj) ∙ ap (at (filled rel plan p)) e
  ]

  pub filled-stands : (p : List ℕ) (f : ℕ → ℕ) → ((i : ℕ) → i < rule.row_count → Lands rel rule f i (place p i)) → (t : Term) → Early rule rule.row_count t → at f t ≡ at (filled rel plan p) t
  filled-stands p f lands t stands = filled-early p f rule.row_count (omega arith) lands t stands

  -- so it sends them there too
  pub filled-lands : (p : List ℕ) (f : ℕ → ℕ) (n : ℕ) → n ≤ rule.row_count → ((i : ℕ) → i < n → Lands rel rule f i (place p i)) → (i : ℕ) → i < n → Lands rel rule (filled rel plan p) i (place p i)
  filled-lands p f n all lands i h = record {
    within = (lands i h).within;
    wide = (lands i h).wide;
    cells = λ j l. filled_is p f n all lands i j h l ∙ (lands i h).cells j l;
  }

  -- a row lands where its tests pass
  pub tested_lands : (p : List ℕ) (i : ℕ) (t : Tests) → Leaves rule plan i t rule.width → ((u : ℕ) → u < t.count → at (filled rel plan p) (loaded_term rule i (column_at t u)) ≡ get_or (get_or rel (place p i) []) (column_at t u) 0) → Cells rel rule (filled rel plan p) i (place p i) rule.width
  tested_lands p i t leaves tested j h = by_case (leaves.all j h)
    where
      by_case : ((u : ℕ) × (u < t.count) × (column_at t u ≡ j)) ⊎ Own rule plan i j → at (filled rel plan p) (loaded_term rule i j) ≡ get_or (get_or rel (place p i) []) j 0
      by_case (inl (u, l, e)) = subst (λ x. at (filled rel plan p) (loaded_term rule i x) ≡ get_or (get_or rel (place p i) []) x 0) e (tested u l)
      by_case (inr own) =
          ap (at (filled rel plan p)) own.is
          ∙ ap (λ x. get_or (get_or rel (place p x) []) (slot plan own.symbol).column 0) own.row
          ∙ ap (λ x. get_or (get_or rel (place p i) []) x 0) own.column

module _ (rule : LoadedRule) (plan : Plan) (i : ℕ) where
  pub leaves_own : (t : Tests) (n : ℕ) → Leaves rule plan i t n → Own rule plan i n → Leaves rule plan i t (n + 1)
  leaves_own t n leaves own = record { few = omega (arith, leaves.few); inside = λ u h. omega (arith, leaves.inside u h); all = below_more _ _ leaves.all (inr own) }

  abbrev pub one_test : Tests → ℕ → Tests
  one_test t n = record { columns = set t.columns t.count n; count = t.count + 1 }

  pub leaves_test : (t : Tests) (n : ℕ) → length t.columns ≡ 8 → n < 8 → Leaves rule plan i t n → Leaves rule plan i (one_test t n) (n + 1)
  leaves_test t n long few leaves = record {
    few = omega (arith, leaves.few);
    inside = λ u h. inside u h (cases_eq u t.count);
    all = below_more _ _ (λ j h. again j (leaves.all j h)) (inl (t.count, omega arith, new));
  }
    where
      new : column_at (one_test t n) t.count ≡ n
      new = get_or-set_same t.columns t.count n 0 (omega (arith, leaves.few))

      old : (u : ℕ) → u < t.count → column_at (one_test t n) u ≡ column_at t u
      old u h = get_or-set_other t.columns t.count u n 0 (λ e. omega arith)

      inside : (u : ℕ) → u < t.count + 1 → (u ≡ t.count) ⊎ (u ≡ t.count → ⊥) → column_at (one_test t n) u < n + 1
      inside u h (inl e) = subst (λ x. x < n + 1) (sym (ap (column_at (one_test t n)) e ∙ new)) (omega arith)
      inside u h (inr ne) = subst (λ x. x < n + 1) (sym (old u (omega arith))) (omega (arith, leaves.inside u (omega arith)))

      again : (j : ℕ) → ((u : ℕ) × (u < t.count) × (column_at t u ≡ j)) ⊎ Own rule plan i j → ((u : ℕ) × (u < t.count + 1) × (column_at (one_test t n) u ≡ j)) ⊎ Own rule plan i j
      again j (inl (u, l, e)) = inl (u, omega arith, old u l ∙ e)
      again j (inr own) = inr own

-- only where the symbols stand matters
leaves_origin : (rule : LoadedRule) (o q : Plan) (i : ℕ) (t : Tests) (n : ℕ) → q.origin ≡ o.origin → Leaves rule o i t n → Leaves rule q i t n
leaves_origin rule o q i t n e leaves = record { few = leaves.few; inside = leaves.inside; all = λ j h. by_case j (leaves.all j h) }
  where
    by_case : (j : ℕ) → ((u : ℕ) × (u < t.count) × (column_at t u ≡ j)) ⊎ Own rule o i j → ((u : ℕ) × (u < t.count) × (column_at t u ≡ j)) ⊎ Own rule q i j
    by_case j (inl tested) = inl tested
    by_case j (inr own) = inr (record {
      symbol = own.symbol;
      is = own.is;
      row = ap (λ x. (get_or x own.symbol no_slot).row) e ∙ own.row;
      column = ap (λ x. (get_or x own.symbol no_slot).column) e ∙ own.column;
    })

pub planned_all : (rule : LoadedRule) (o q : Plan) (n : ℕ) → q.origin ≡ o.origin → RowsFit rule o → Origins rule o → rule.row_count ≤ n → ((i : ℕ) → i < n → Leaves rule o i (tests_at q i) rule.width) → Planned rule q
planned_all rule o q n e rows origins all leaves = record {
  rows = λ s h. subst (λ x. (get_or x s no_slot).row < rule.row_count) (sym e) (rows s h);
  origins = λ i low hi j hj s is. subst (λ x. Origin rule s i (get_or x s no_slot)) (sym e) (origins i low hi j hj s is);
  tests = λ i h. leaves_origin rule o q i (tests_at q i) rule.width e (leaves i (omega arith));
}
