-- Keeping a rule is unmoved by a renaming.
use Rattle.std.proofs.Common.{◌≡◌, ℕ, ◌<◌, cond, eqb, ◌⊎◌, List, [], ◌∷◌, map, sym, refl, ap, ◌∙◌, subst, ap₂, inl, inr, arith}
use mathlib.Core.List.Memᴰ
use mathlib.Core.List.{map-map}
use Rattle.std.proofs.lemmas.Bool.{cond_both, cases_lt, eqb-true, eqb-false}
use Rattle.rules.specs.declared.term.Term.{Term}
use Rattle.rules.specs.declared.term.Term.TheVariants.{Constant, Variable}
use Rattle.rules.specs.Rules.{◌∈◌, Relation, Valuation, at, Places, Rule, Keeps}
use Rattle.rules.specs.Books.{base, Known, WellFormed}
use Rattle.rules.proofs.Members.{map_on}
use Rattle.law.specs.Renaming.{numbers, Renaming, KeepingUnmoved}
use Rattle.law.proofs.Starting.{Low, small_low, known-low}
use Rattle.law.proofs.Sound.{agree_after}

number_member : (rel : Relation) (row : List ℕ) (n : ℕ) → row ∈ rel → n ∈ row → n ∈ numbers rel
number_member [] row n m k = elim m [ ]
number_member (first ∷ rel) row n (Memᴰ.head e) k = Memᴰ.append_left (numbers rel) (subst (λ (r : List ℕ). n ∈ r) e k)
number_member (first ∷ rel) row n (Memᴰ.tail m) k = Memᴰ.append_right first (number_member rel row n m k)

-- the first number of a list that F sends to m
abbrev back : (ℕ → ℕ) → List ℕ → ℕ → ℕ
back F [] m = 0
back F (n ∷ ns) m = cond (eqb (F n) m) n (back F ns m)

back_found : (F : ℕ → ℕ) (ns : List ℕ) (n : ℕ) → n ∈ ns → (back F ns (F n) ∈ ns) × (F (back F ns (F n)) ≡ F n)
back_found F [] n k = elim k [ ]
back_found F (x ∷ ns) n k = go (Memᴰ.cases_cons k) (back_found F ns n)
  where
    Found : ℕ → Type 0
    Found i = (i ∈ (x ∷ ns)) × (F i ≡ F n)

    go : (n ≡ x) ⊎ (n ∈ ns) → (n ∈ ns → (back F ns (F n) ∈ ns) × (F (back F ns (F n)) ≡ F n)) → Found (cond (eqb (F x) (F n)) x (back F ns (F n)))
    go (inl e) rest =
        cond_both (eqb (F x) (F n)) x (back F ns (F n)) Found (λ k. (Memᴰ.head refl, eqb-true (F x) (F n) k))
        (λ k. absurd (eqb-false (F x) (F n) k (ap F (sym e))))
    go (inr m) rest =
        let r = rest m in
        cond_both (eqb (F x) (F n)) x (back F ns (F n)) Found (λ k. (Memᴰ.head refl, eqb-true (F x) (F n) k)) (λ k. (Memᴰ.tail r.0, r.1))

module _ (F : ℕ → ℕ) (rel : Relation) (renames : Renaming F rel) where
  -- what F sends to a constant is that constant
  from_constant : (n c : ℕ) → c < base → F n ≡ c → n ≡ c
  from_constant n c l e =
      elim (cases_lt n base) [
        | inl low ↦ sym (renames.constants n low) ∙ e
        | inr high ↦ (let far = renames.unknowns n high in absurd (omega arith))
      ]

  -- a number of the relation, or a constant
  abbrev Here : ℕ → Type 0
  Here n = (n ∈ numbers rel) ⊎ (n < base)

  same : (m n : ℕ) → Here m → Here n → F m ≡ F n → m ≡ n
  same m n (inl k) (inl k') e = renames.injective m n k k' e
  same m n (inr l) k' e = sym (from_constant n m l (sym e ∙ renames.constants m l))
  same m n (inl k) (inr l) e = from_constant m n l (e ∙ renames.constants n l)

  back_to : (n : ℕ) → n ∈ numbers rel → back F (numbers rel) (F n) ≡ n
  back_to n k =
      let r = back_found F (numbers rel) n k in
      renames.injective (back F (numbers rel) (F n)) n r.0 k r.1

  -- a placing in the renamed relation, taken back
  abbrev taken : Valuation → Valuation
  taken f v = back F (numbers rel) (f v)

  taken_at : (f : Valuation) (e : Term) (n : ℕ) → Low e → n ∈ numbers rel → F n ≡ at f e → at (taken f) e ≡ n
  taken_at f (Constant c) n l k is = sym (from_constant n c l is)
  taken_at f (Variable v) n l k is = ap (back F (numbers rel)) (sym is) ∙ back_to n k

  taken-row : (f : Valuation) (row : List Term) (ns : List ℕ) → ((e : Term) → e ∈ row → Low e) → ((n : ℕ) → n ∈ ns → n ∈ numbers rel) →
      map F ns ≡ map (at f) row → map (at (taken f)) row ≡ ns
  taken-row f [] [] low here is = refl
  taken-row f [] (n ∷ ns) low here is = let z : ◌≡◌ {A = ℕ} 0 1 = cc in absurd (omega arith)
  taken-row f (e ∷ row) [] low here is = let z : ◌≡◌ {A = ℕ} 0 1 = cc in absurd (omega arith)
  taken-row f (e ∷ row) (n ∷ ns) low here is =
      let first : F n ≡ at f e = cc in
      let rest : map F ns ≡ map (at f) row = cc in
      ap₂ ◌∷◌ (taken_at f e n (low e (Memᴰ.head refl)) (here n (Memᴰ.head refl)) first)
      (taken-row f row ns (λ x m. low x (Memᴰ.tail m)) (λ x m. here x (Memᴰ.tail m)) rest)

  module _ (width : ℕ) (r : Rule) (fits : WellFormed width r) where
    low : (row : List Term) → row ∈ r.pattern → (e : Term) → e ∈ row → Low e
    low row n e m = small_low e (fits.small row n e m)

    taken_places : (f : Valuation) → Places f r.pattern (map (map F) rel) → Places (taken f) r.pattern rel
    taken_places f places row n =
        let q = Memᴰ.of_map (map F) rel (places row n) in
        Memᴰ.cast (taken-row f row q.0 (low row n) (λ i m. number_member rel q.0 i q.1 m) q.2) q.1

    -- a number that a placing in the renamed relation gives to a term is that of the placing taken back, renamed
    taken-known : (f : Valuation) → Places f r.pattern (map (map F) rel) → (e : Term) → Known r.pattern e → F (at (taken f) e) ≡ at f e
    taken-known f places (Constant c) k = renames.constants c k
    taken-known f places (Variable v) k =
        let q = Memᴰ.of_map (map F) rel (places k.0 k.1) in
        let m : f v ∈ map (at f) k.0 = Memᴰ.map (at f) k.2 in
        let w = Memᴰ.of_map F q.0 (subst (λ (row : List ℕ). f v ∈ row) (sym q.2) m) in
        ap F (taken_at f (Variable v) w.0 tt (number_member rel q.0 w.0 q.1 w.1) w.2) ∙ w.2

    to : Keeps rel r → Keeps (map (map F) rel) r
    to keeps f g c p m =
        let k = fits.pairs_known p m in
        let e =
        keeps (taken f) (taken g)
        (record {
          first = taken_places f c.first;
          second = taken_places g c.second;
          agree = agree_after r.kind r.left (back F (numbers rel)) f g c.agree;
        })
        p m
        in
        sym (taken-known f c.first p.0 k.0) ∙ ap F e ∙ taken-known g c.second p.1 k.1

    renamed_at : (f : Valuation) (e : Term) → Low e → at (λ v. F (f v)) e ≡ F (at f e)
    renamed_at f (Constant c) l = sym (renames.constants c l)
    renamed_at f (Variable v) l = refl

    renamed_places : (f : Valuation) → Places f r.pattern rel → Places (λ v. F (f v)) r.pattern (map (map F) rel)
    renamed_places f places row n =
        Memᴰ.cast
        (map_on (at (λ v. F (f v))) (λ e. F (at f e)) row (λ e k. renamed_at f e (low row n e k)) ∙ sym (map-map F (at f) row))
        (Memᴰ.map (map F) (places row n))

    here : (f : Valuation) → Places f r.pattern rel → (e : Term) → Known r.pattern e → Here (at f e)
    here f places (Constant c) k = inr k
    here f places (Variable v) k = inl (number_member rel (map (at f) k.0) (f v) (places k.0 k.1) (Memᴰ.map (at f) k.2))

    from : Keeps (map (map F) rel) r → Keeps rel r
    from keeps f g c p m =
        let k = fits.pairs_known p m in
        let e =
        keeps (λ v. F (f v)) (λ v. F (g v))
        (record {
          first = renamed_places f c.first;
          second = renamed_places g c.second;
          agree = agree_after r.kind r.left F f g c.agree;
        })
        p m
        in
        same (at f p.0) (at g p.1) (here f c.first p.0 k.0) (here g c.second p.1 k.1)
        (sym (renamed_at f p.0 (known-low r.pattern p.0 k.0)) ∙ e ∙ renamed_at g p.1 (known-low r.pattern p.1 k.1))

pub unmoved : KeepingUnmoved
unmoved F rel renames width r fits = (to F rel renames width r fits, from F rel renames width r fits)
