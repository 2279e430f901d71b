-- What the groups show as, and how many there are.
use Rattle.std.proofs.Common.{◌≡◌, ℕ, suc, ◌+◌, ◌<◌, ◌≤◌, min, max, Bool, true, false, cond, ◌||◌, eqb, ltb, ◌≢◌, ◌⊎◌, List, [], ◌∷◌, map, sym, refl, ap, ◌∙◌, subst, ap₂, inl, inr, arith}
use mathlib.Core.List.Memᴰ
use Rattle.std.proofs.lemmas.Bool.{cond-true, cond-false, eq-eqb, ne_eqb, le-ltb, ltb-false, cases_eq}
use Rattle.rules.specs.declared.term.Term.{Term}
use Rattle.rules.specs.declared.term.Term.TheVariants.{Constant, Variable}
use Rattle.rules.specs.Rules.{◌∈◌, Pattern, Valuation, at, Places, Rule}
use Rattle.rules.specs.Books.{base, Known, Stands}
use Rattle.rules.specs.Doubled.{holds}
use Rattle.law.specs.Groups.{State, Alone, current, different, row_symbols, symbols, unknowns, symbol_count, group_count}
use Rattle.law.specs.Runs.{OpenSpot, Merge, Merges, none, more}
use Rattle.law.specs.Stored.{Held}
use Rattle.law.proofs.Lists.{at-max, at-min}
use Rattle.law.proofs.Counts.{different-less, different-most, different-part, different-image}

-- the symbols of rows are those that stand in them
row_member : (row : List Term) (v : ℕ) → Variable v ∈ row → v ∈ row_symbols row
row_member [] v m = elim m [ ]
row_member (Constant c ∷ row) v (Memᴰ.head e) = let z : ◌≡◌ {A = ℕ} 0 1 = cc in absurd (omega arith)
row_member (Constant c ∷ row) v (Memᴰ.tail m) = row_member row v m
row_member (Variable u ∷ row) v (Memᴰ.head e) = let z : v ≡ u = cc in Memᴰ.head z
row_member (Variable u ∷ row) v (Memᴰ.tail m) = Memᴰ.tail (row_member row v m)

member_row : (row : List Term) (v : ℕ) → v ∈ row_symbols row → Variable v ∈ row
member_row [] v m = elim m [ ]
member_row (Constant c ∷ row) v m = Memᴰ.tail (member_row row v m)
member_row (Variable u ∷ row) v m =
    elim (Memᴰ.cases_cons m) [ inl e ↦ Memᴰ.head (ap Variable e) | inr k ↦ Memᴰ.tail (member_row row v k) ]

pub stands-symbol : (p : Pattern) (v : ℕ) (row : List Term) → row ∈ p → Variable v ∈ row → v ∈ symbols p
stands-symbol [] v row n m = elim n [ ]
stands-symbol (first ∷ p) v row (Memᴰ.head e) m =
    Memᴰ.append_left (symbols p) (row_member first v (subst (λ (r : List Term). Variable v ∈ r) e m))
stands-symbol (first ∷ p) v row (Memᴰ.tail n) m = Memᴰ.append_right (row_symbols first) (stands-symbol p v row n m)

pub symbol-stands : (p : Pattern) (v : ℕ) → v ∈ symbols p → Stands v p
symbol-stands [] v m = elim m [ ]
symbol-stands (row ∷ p) v m = go (Memᴰ.append_cases (row_symbols row) m) (symbol-stands p v)
  where
    go : (v ∈ row_symbols row) ⊎ (v ∈ symbols p) → (v ∈ symbols p → Stands v p) → Stands v (row ∷ p)
    go (inl k) rest = (row, Memᴰ.head refl, member_row row v k)
    go (inr k) rest = let s = rest k in (s.0, Memᴰ.tail s.1, s.2)

unknown_member : (xs : List ℕ) (n : ℕ) → n ∈ xs → base ≤ n → n ∈ unknowns xs
unknown_member [] n m l = elim m [ ]
unknown_member (x ∷ xs) n m l = go (ltb x base) refl (Memᴰ.cases_cons m) (λ k. unknown_member xs n k l)
  where
    go : (t : Bool) → ltb x base ≡ t → (n ≡ x) ⊎ (n ∈ xs) → (n ∈ xs → n ∈ unknowns xs) → n ∈ cond t (unknowns xs) (x ∷ unknowns xs)
    go true e (inl k) rest = let f : ltb x base ≡ false = le-ltb x base (omega arith) in let z : ◌≡◌ {A = ℕ} 0 1 = cc in absurd (omega arith)
    go true e (inr k) rest = rest k
    go false e (inl k) rest = Memᴰ.head k
    go false e (inr k) rest = Memᴰ.tail (rest k)

member_unknown : (xs : List ℕ) (n : ℕ) → n ∈ unknowns xs → (n ∈ xs) × (base ≤ n)
member_unknown [] n m = elim m [ ]
member_unknown (x ∷ xs) n m = go (ltb x base) refl m (member_unknown xs n)
  where
    go : (t : Bool) → ltb x base ≡ t → n ∈ cond t (unknowns xs) (x ∷ unknowns xs) → (n ∈ unknowns xs → (n ∈ xs) × (base ≤ n)) → (n ∈ (x ∷ xs)) × (base ≤ n)
    go true e m rest = let r = rest m in (Memᴰ.tail r.0, r.1)
    go false e m rest =
        elim (Memᴰ.cases_cons m) [
          | inl k ↦ (let l = ltb-false x base e in (Memᴰ.head k, omega arith))
          | inr k ↦ (let r = rest k in (Memᴰ.tail r.0, r.1))
        ]

-- the symbol v shows as u, which is the least symbol of its group
pub record Least (s : State) (v u : ℕ) : Type 0 where
  pub shown : s v ≡ base + u
  pub itself : s u ≡ base + u
  pub least : u ≤ v

-- a starting symbol that shows as no constant shows as the least of its group, a starting symbol too
abbrev pub Shape : Pattern → State → Type 0
Shape start s = (v : ℕ) → Stands v start → base ≤ s v → (u : ℕ) × Least s v u × Stands u start

pub alone_shape : (start : Pattern) (s : State) → Alone start s → Shape start s
alone_shape start s alone v k l = let e = alone v k in (v, record { shown = e; itself = e; least = omega arith }, k)

-- a number that a starting symbol shows as
abbrev pub ShownBy : Pattern → State → ℕ → Type 0
ShownBy start s n = (v : ℕ) × Stands v start × (s v ≡ n)

module _ (width : ℕ) (rules : List Rule) (start : Pattern) (held : Held width rules start) where
  entry-shown : (s : State) (row : List Term) → row ∈ start → (e : Term) → e ∈ row → base ≤ at s e → ShownBy start s (at s e)
  entry-shown s row n (Constant c) m l = let small : c < base = held.entries row n (Constant c) m in absurd (omega arith)
  entry-shown s row n (Variable v) m l = (v, (row, n, m), refl)

  -- a number that a placing in the current rows gives to a term of its pattern is a constant, or one that a starting symbol shows as
  placed_shown : (s : State) (p : Pattern) (f : Valuation) → Places f p (current start s) → (e : Term) → Known p e → base ≤ at f e → ShownBy start s (at f e)
  placed_shown s p f places (Constant c) k l = absurd (omega arith)
  placed_shown s p f places (Variable v) k l =
      let q = Memᴰ.of_map (map (at s)) start (places k.0 k.1) in
      let m : f v ∈ map (at f) k.0 = Memᴰ.map (at f) k.2 in
      let w = Memᴰ.of_map (at s) q.0 (subst (λ (row : List ℕ). f v ∈ row) (sym q.2) m) in
      subst (ShownBy start s) w.2 (entry-shown s q.0 q.1 w.0 w.1 (subst (λ (n : ℕ). base ≤ n) (sym w.2) l))

  pub left_shown : (s : State) (x y : ℕ) → OpenSpot rules (current start s) x y → base ≤ x → ShownBy start s x
  left_shown s x y o l =
      let k = (held.rules_fit o.rule o.listed).pairs_known o.pair o.paired in
      subst (ShownBy start s) o.left_is
      (placed_shown s o.rule.pattern o.first o.compared.first o.pair.0 k.0 (subst (λ (n : ℕ). base ≤ n) (sym o.left_is) l))

  pub right_shown : (s : State) (x y : ℕ) → OpenSpot rules (current start s) x y → base ≤ y → ShownBy start s y
  right_shown s x y o l =
      let k = (held.rules_fit o.rule o.listed).pairs_known o.pair o.paired in
      subst (ShownBy start s) o.right_is
      (placed_shown s o.rule.pattern o.second o.compared.second o.pair.1 k.1 (subst (λ (n : ℕ). base ≤ n) (sym o.right_is) l))

  -- one merge: the group of M, which is no constant, shows as N from now on
  module _ (s s' : State) (M N : ℕ) (less : N < M) (no-constant : base ≤ M) (high : ShownBy start s M) (low : base ≤ N → ShownBy start s N)
      (merged : (v : ℕ) → Stands v start → s' v ≡ cond (eqb (s v) M) N (s v)) where
    moves : (v : ℕ) → Stands v start → s v ≡ M → s' v ≡ N
    moves v k e = merged v k ∙ cond-true (eqb (s v) M) N (s v) (eq-eqb (s v) M e)

    stays : (v : ℕ) → Stands v start → (s v ≡ M → ⊥) → s' v ≡ s v
    stays v k d = merged v k ∙ cond-false (eqb (s v) M) N (s v) (ne_eqb (s v) M d)

    shape_after : Shape start s → Shape start s'
    shape_after shape v st l = go (cases_eq (s v) M)
      where
        go : (s v ≡ M) ⊎ (s v ≡ M → ⊥) → (u : ℕ) × Least s' v u × Stands u start
        go (inl e) =
            let e' = moves v st e in
            let k = low (omega arith) in
            let shows = k.2 in
            let head = shape k.0 k.1 (omega arith) in
            let is = head.1.shown in
            let itself = head.1.itself in
            let old = shape v st (omega arith) in
            let shown = old.1.shown in
            let least = old.1.least in
            let kept = stays head.0 head.2 (λ c. omega arith) in
            (head.0, record { shown = e' ∙ sym k.2 ∙ is; itself = kept ∙ itself; least = omega arith }, head.2)
        go (inr d) =
            let e' = stays v st d in
            let old = shape v st (omega arith) in
            let kept = stays old.0 old.2 (λ c. d (old.1.shown ∙ sym old.1.itself ∙ c)) in
            (old.0, record { shown = e' ∙ old.1.shown; itself = kept ∙ old.1.itself; least = old.1.least }, old.2)

    abbrev before : List ℕ
    before = map s (symbols start)

    abbrev later : List ℕ
    later = map s' (symbols start)

    shown-member : (n : ℕ) → ShownBy start s n → base ≤ n → n ∈ unknowns before
    shown-member n k l =
        unknown_member before n (Memᴰ.cast (sym k.2) (Memᴰ.map s (stands-symbol start k.0 k.1.0 k.1.1 k.1.2))) l

    gone : M ∈ unknowns later → ⊥
    gone m =
        let k = member_unknown later M m in
        let q = Memᴰ.of_map s' (symbols start) k.0 in
        let st = symbol-stands start q.0 q.1 in
        elim (cases_eq (s q.0) M) [
          | inl e ↦ (let e' = moves q.0 st e in let is = q.2 in omega arith)
          | inr d ↦ d (sym (stays q.0 st d) ∙ q.2)
        ]

    forth : (n : ℕ) → n ≢ M → n ∈ unknowns before → n ∈ unknowns later
    forth n d m =
        let k = member_unknown before n m in
        let q = Memᴰ.of_map s (symbols start) k.0 in
        let e : s' q.0 ≡ n = stays q.0 (symbol-stands start q.0 q.1) (λ c. d (sym q.2 ∙ c)) ∙ q.2 in
        unknown_member later n (Memᴰ.cast (sym e) (Memᴰ.map s' q.1)) k.1

    back : (n : ℕ) → n ≢ M → n ∈ unknowns later → n ∈ unknowns before
    back n d m =
        let k = member_unknown later n m in
        let q = Memᴰ.of_map s' (symbols start) k.0 in
        let st = symbol-stands start q.0 q.1 in
        elim (cases_eq (s q.0) M) [
          | inl e ↦
              (let is : N ≡ n = sym (moves q.0 st e) ∙ q.2 in
              let l = k.1 in
              subst (λ (i : ℕ). i ∈ unknowns before) is (shown-member N (low (omega arith)) (omega arith)))
          | inr c ↦ unknown_member before n (Memᴰ.cast (sym (sym (stays q.0 st c) ∙ q.2)) (Memᴰ.map s q.1)) k.1
        ]

    one_less : group_count start s ≡ suc (group_count start s')
    one_less = different-less (unknowns before) (unknowns later) M (shown-member M high no-constant) gone forth back

  lesser : (x y : ℕ) → x ≢ y → min x y < max x y
  lesser x y d = omega arith

  high_shown : (s s' : State) (m : Merge rules start s s') → ShownBy start s (max m.x m.y)
  high_shown s s' m =
      at-max (λ n. base ≤ n → ShownBy start s n) m.x m.y (left_shown s m.x m.y m.spot) (right_shown s m.x m.y m.spot) m.no_clash

  low_shown : (s s' : State) (m : Merge rules start s s') → base ≤ min m.x m.y → ShownBy start s (min m.x m.y)
  low_shown s s' m =
      at-min (λ n. base ≤ n → ShownBy start s n) m.x m.y (left_shown s m.x m.y m.spot) (right_shown s m.x m.y m.spot)

  pub merge_shape : (s s' : State) → Merge rules start s s' → Shape start s → Shape start s'
  merge_shape s s' m =
      shape_after s s' (max m.x m.y) (min m.x m.y) (lesser m.x m.y m.spot.differ) m.no_clash
      (high_shown s s' m) (low_shown s s' m) m.merged

  -- each merge leaves one group less, of those that hold a starting symbol and no constant
  pub merge_counts : (s s' : State) → Merge rules start s s' → group_count start s ≡ suc (group_count start s')
  merge_counts s s' m =
      one_less s s' (max m.x m.y) (min m.x m.y) (lesser m.x m.y m.spot.differ) m.no_clash
      (high_shown s s' m) (low_shown s s' m) m.merged

-- at first each starting symbol is a group
module _ (s : State) where
  eqb-alone : (u v : ℕ) → s u ≡ base + u → s v ≡ base + v → eqb (s u) (s v) ≡ eqb u v
  eqb-alone u v a a' =
      elim (cases_eq u v) [
        | inl e ↦ eq-eqb (s u) (s v) (ap s e) ∙ sym (eq-eqb u v e)
        | inr d ↦ ne_eqb (s u) (s v) (λ c. d (omega arith)) ∙ sym (ne_eqb u v d)
      ]

  abbrev AllAlone : List ℕ → Type 0
  AllAlone vs = (v : ℕ) → v ∈ vs → s v ≡ base + v

  holds-alone : (vs : List ℕ) → AllAlone vs → (v : ℕ) → s v ≡ base + v → holds (map s vs) (s v) ≡ holds vs v
  holds-alone [] alone v e = refl
  holds-alone (u ∷ vs) alone v e =
      ap₂ ◌||◌ (eqb-alone u v (alone u (Memᴰ.head refl)) e) (holds-alone vs (λ w m. alone w (Memᴰ.tail m)) v e)

  different-alone : (vs : List ℕ) → AllAlone vs → different (map s vs) ≡ different vs
  different-alone [] alone = refl
  different-alone (v ∷ vs) alone =
      let rest : AllAlone vs = λ w m. alone w (Memᴰ.tail m) in
      ap₂ (λ (k : Bool) (n : ℕ). cond k n (suc n)) (holds-alone vs rest v (alone v (Memᴰ.head refl))) (different-alone vs rest)

  unknown_alone : (vs : List ℕ) → AllAlone vs → unknowns (map s vs) ≡ map s vs
  unknown_alone [] alone = refl
  unknown_alone (v ∷ vs) alone =
      let e = alone v (Memᴰ.head refl) in
      let l : base ≤ s v = omega arith in
      cond-false (ltb (s v) base) (unknowns (map s vs)) (s v ∷ unknowns (map s vs)) (le-ltb (s v) base l) ∙
      ap (λ (ns : List ℕ). s v ∷ ns) (unknown_alone vs (λ w m. alone w (Memᴰ.tail m)))

  pub alone_counts : (start : Pattern) → Alone start s → group_count start s ≡ symbol_count start
  alone_counts start alone =
      let all : AllAlone (symbols start) = λ v m. alone v (symbol-stands start v m) in
      ap different (unknown_alone (symbols start) all) ∙ different-alone (symbols start) all

-- there are at most 64 starting symbols
pub few_symbols : (start : Pattern) → ((v : ℕ) → Stands v start → v < 64) → symbol_count start ≤ 64
few_symbols start near = different-most (symbols start) 64 (λ v m. near v (symbol-stands start v m))

-- there are no more groups than starting symbols
pub groups_most : (start : Pattern) (s : State) → group_count start s ≤ symbol_count start
groups_most start s =
    let a = different-part (unknowns (map s (symbols start))) (map s (symbols start)) (λ n m. (member_unknown (map s (symbols start)) n m).0) in
    let e = different-image s (symbols start) in
    omega arith

-- m merges leave m groups less
pub merges_counts : (width : ℕ) (rules : List Rule) (start : Pattern) → Held width rules start → (s : State) {s' : State} {m : ℕ} →
    Merges rules start s s' m → m + group_count start s' ≡ group_count start s
merges_counts width rules start held s none = omega arith
merges_counts width rules start held s {s'} (more {s' = s₁} merges step) =
    let before = merges_counts width rules start held s merges in
    let e = merge_counts width rules start held s₁ s' step in
    omega arith

-- so at most 64 merges are made from any state
pub merges_few : (width : ℕ) (rules : List Rule) (start : Pattern) → Held width rules start → ((v : ℕ) → Stands v start → v < 64) →
    (s : State) {s' : State} {m : ℕ} → Merges rules start s s' m → m ≤ 64
merges_few width rules start held near s merges =
    let e = merges_counts width rules start held s merges in
    let most = groups_most start s in
    let few = few_symbols start near in
    omega arith
