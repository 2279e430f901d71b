-- The numbers of the rows that are due.
use Rattle.std.proofs.Common.{ℕ, ◌<◌, ◌≤◌, min, max, eqb, ◌⊎◌, List, map, length, sym, ap, subst, inl, inr, arith, length-append}
use mathlib.Core.List.Memᴰ
use lib.ListN.{length-map}
use Rattle.std.proofs.lemmas.Bool.{cond_both}
use Rattle.rules.specs.declared.term.Term.{Term}
use Rattle.rules.specs.declared.term.Term.TheVariants.{Constant, Variable}
use Rattle.rules.specs.declared.term.Kind.{Kind}
use Rattle.rules.specs.declared.term.Kind.TheVariants.{Functional, Equality}
use Rattle.rules.specs.Rules.{◌∈◌, Relation, Pattern, Valuation, at, Places, Rule}
use Rattle.rules.specs.Books.{BookMeaning, base, Stands, Known, WellFormed, WellFormedBook}
use Rattle.rules.specs.Doubled.{copied, doubled_rows_as, doubled_rows}
use Rattle.law.specs.Groups.{State, current}
use Rattle.law.specs.Runs.{Merge, Merges, none, more, Run}
use Rattle.law.proofs.Lists.{at-min}
use Rattle.law.proofs.Starting.{starts_fit}
use Rattle.law.proofs.Lawful.{Lawful, run_lawful}
use Rattle.outcomes.specs.Due.{RowsDue}
use Rattle.outcomes.specs.Laws.{Below, ConstantsBelow, Named, FewRows}

-- a constant below n, or a symbol
abbrev Clear : ℕ → ℕ → Type 0
Clear n e = (e < n) ⊎ (base ≤ e)

copied-below : (n : ℕ) (left : List ℕ) (e : Term) → Below n e → Below n (copied left e)
copied-below n left (Constant c) l = l
copied-below n left (Variable v) l = tt

doubled-below : (n : ℕ) (k : Kind) (t : Rule) → ((row : List Term) → row ∈ t.pattern → (e : Term) → e ∈ row → Below n e) →
    (row : List Term) → row ∈ doubled_rows_as k t → (e : Term) → e ∈ row → Below n e
doubled-below n Equality t low row m e k = low row m e k
doubled-below n Functional t low row m e k = elim (Memᴰ.append_cases t.pattern m) [ inl q ↦ low row q e k | inr q ↦ again q ]
  where
    again : row ∈ map (map (copied t.left)) t.pattern → Below n e
    again q =
        let p = Memᴰ.of_map (map (copied t.left)) t.pattern q in
        let u = Memᴰ.of_map (copied t.left) p.0 (subst (λ (row : List Term). e ∈ row) (sym p.2) k) in
        subst (Below n) u.2 (copied-below n t.left u.0 (low p.0 p.1 u.0 u.1))

module _ (n : ℕ) (start : Pattern) (low : (row : List Term) → row ∈ start → (e : Term) → e ∈ row → Below n e) where
  abbrev AllClear : State → Type 0
  AllClear s = (v : ℕ) → Stands v start → Clear n (s v)

  entry-clear : (s : State) → AllClear s → (row : List Term) → row ∈ start → (e : Term) → e ∈ row → Clear n (at s e)
  entry-clear s all row m (Constant c) k = inl (low row m (Constant c) k)
  entry-clear s all row m (Variable v) k = all v (row, m, k)

  row_clear : (s : State) → AllClear s → (row : List ℕ) → row ∈ current start s → (e : ℕ) → e ∈ row → Clear n e
  row_clear s all row m e k =
      let q = Memᴰ.of_map (map (at s)) start m in
      let w = Memᴰ.of_map (at s) q.0 (subst (λ (row : List ℕ). e ∈ row) (sym q.2) k) in
      subst (Clear n) w.2 (entry-clear s all q.0 q.1 w.0 w.1)

  placed_clear : (s : State) → AllClear s → (p : Pattern) (f : Valuation) → Places f p (current start s) → (e : Term) → Known p e → Below n e → Clear n (at f e)
  placed_clear s all p f places (Constant c) k l = inl l
  placed_clear s all p f places (Variable v) k l = row_clear s all (map (at f) k.0) (places k.0 k.1) (f v) (Memᴰ.map (at f) k.2)

  module _ (rules : List Rule) (width : ℕ) (fits : (r : Rule) → r ∈ rules → WellFormed width r)
      (pairs : (r : Rule) → r ∈ rules → (p : Term × Term) → p ∈ r.pairs → Below n p.0 × Below n p.1) where
    merge_clear : (s s' : State) → Merge rules start s s' → AllClear s → AllClear s'
    merge_clear s s' m all v st =
        let o = m.spot in
        let known = (fits o.rule o.listed).pairs_known o.pair o.paired in
        let below = pairs o.rule o.listed o.pair o.paired in
        let left : Clear n m.x = subst (Clear n) o.left_is (placed_clear s all o.rule.pattern o.first o.compared.first o.pair.0 known.0 below.0) in
        let right : Clear n m.y = subst (Clear n) o.right_is (placed_clear s all o.rule.pattern o.second o.compared.second o.pair.1 known.1 below.1) in
        subst (Clear n) (sym (m.merged v st))
        (cond_both (eqb (s v) (max m.x m.y)) (min m.x m.y) (s v) (Clear n) (λ e. at-min (Clear n) m.x m.y left right) (λ e. all v st))

    merges_clear : (s : State) → AllClear s → {s' : State} {m : ℕ} → Merges rules start s s' m → AllClear s'
    merges_clear s all none = all
    merges_clear s all {s'} (more {s' = s₁} ms step) = merge_clear s₁ s' step (merges_clear s all ms)

module _ (b : BookMeaning) (book_fits : WellFormedBook b) (t : Rule) (fits : WellFormed b.width t) (n : ℕ) (known : ConstantsBelow n b t) where
  abbrev start : Pattern
  start = doubled_rows t

  low : (row : List Term) → row ∈ start → (e : Term) → e ∈ row → Below n e
  low = doubled-below n t.kind t known.rows

  entry_named : (s : State) (m : ℕ) → Lawful b start s m → ((v : ℕ) → Stands v start → Clear n (s v)) →
      (row : List Term) → row ∈ start → (e : Term) → e ∈ row → Named n (at s e)
  entry_named s m l all row k (Constant c) h = inl (low row k (Constant c) h)
  entry_named s m l all row k (Variable v) h =
      let st : Stands v start = (row, k, h) in
      elim (all v st) [
        | inl small ↦ inl small
        | inr high ↦
            (let w = l.shape v st high in
            let is = w.1.shown in
            let near = (starts_fit b book_fits t fits).near w.0 w.2 in
            inr (high, omega arith))
      ]

  pub run_named : (s : State) (m : ℕ) → Run b.rules start s m → (row : List ℕ) → row ∈ current start s → (e : ℕ) → e ∈ row → Named n e
  run_named s m r row k e h =
      let l = run_lawful b start (starts_fit b book_fits t fits) s m r in
      let first : (v : ℕ) → Stands v start → Clear n (r.first v) = λ v st. (let a = r.alone v st in inr (omega arith)) in
      let all = merges_clear n start low b.rules b.width book_fits.rules_fit known.pairs r.first first r.merges in
      let q = Memᴰ.of_map (map (at s)) start k in
      let w = Memᴰ.of_map (at s) q.0 (subst (λ (row : List ℕ). e ∈ row) (sym q.2) h) in
      subst (Named n) w.2 (entry_named s m l all q.0 q.1 w.0 w.1)

doubled-few : (k : Kind) (t : Rule) → length t.pattern ≤ 4 → length (doubled_rows_as k t) ≤ 8
doubled-few Equality t few = omega arith
doubled-few Functional t few =
    omega (arith, length-append t.pattern (map (map (copied t.left)) t.pattern), length-map t.pattern (map (copied t.left)))

pub due-few : (b : BookMeaning) (t : Rule) → WellFormed b.width t → (rows : Relation) → RowsDue b t rows → FewRows b rows
due-few b t fits rows d =
    let few = doubled-few t.kind t fits.few_rows in
    record {
      few = omega (arith, ap length d.are, length-map (doubled_rows t) (map (at d.shows)));
      wide = d.counterexample.model.of_width;
    }
