-- Placings of a pattern in a relation, found among all choices of a row for each row of the pattern.
use Rattle.std.proofs.Common.{◌≡◌, ℕ, Bool, true, false, cond, ◌&&◌, eqb, ◌⊎◌, List, [], ◌∷◌, ◌++◌, map, sym, refl, ap, ◌∙◌, subst, ap₂, inl, inr, arith}
use mathlib.Core.List.Memᴰ
use Rattle.std.proofs.lemmas.Bool.{eq-eqb, eqb-true, eqb-false, false≢true, and_parts, and_from, cond_both}
use Rattle.rules.specs.declared.term.Term.{Term}
use Rattle.rules.specs.declared.term.Term.TheVariants.{Constant, Variable}
use Rattle.rules.specs.Rules.{◌∈◌, Relation, Pattern, Valuation, at, Places}
use Rattle.rules.specs.Books.{Known}
use Rattle.rules.proofs.Members.{map_on}

-- a pattern's rows under a valuation
abbrev pub image : Valuation → Pattern → Relation
image f p = map (map (at f)) p

-- all ways to choose a row of the relation for each row of the pattern
abbrev pub combine : Relation → List Relation → List Relation
combine [] cs = []
combine (r ∷ rel) cs = map (λ c. r ∷ c) cs ++ combine rel cs

abbrev pub choices : Pattern → Relation → List Relation
choices [] rel = [] ∷ []
choices (row ∷ p) rel = combine rel (choices p rel)

-- the valuation that a choice gives: the number where the variable first stands
abbrev pub read_row : List Term → List ℕ → Valuation → Valuation
read_row [] ys d v = d v
read_row (x ∷ xs) [] d v = d v
read_row (Constant c ∷ xs) (y ∷ ys) d v = read_row xs ys d v
read_row (Variable u ∷ xs) (y ∷ ys) d v = cond (eqb u v) y (read_row xs ys d v)

abbrev pub read : Pattern → Relation → Valuation
read [] rs v = 0
read (row ∷ p) [] v = 0
read (row ∷ p) (r ∷ rs) v = read_row row r (read p rs) v

abbrev pub same_row : List ℕ → List ℕ → Bool
same_row [] [] = true
same_row [] (y ∷ ys) = false
same_row (x ∷ xs) [] = false
same_row (x ∷ xs) (y ∷ ys) = eqb x y && same_row xs ys

abbrev pub same_rows : Relation → Relation → Bool
same_rows [] [] = true
same_rows [] (y ∷ ys) = false
same_rows (x ∷ xs) [] = false
same_rows (x ∷ xs) (y ∷ ys) = same_row x y && same_rows xs ys

same_row_refl : (xs : List ℕ) → same_row xs xs ≡ true
same_row_refl [] = refl
same_row_refl (x ∷ xs) = and_from (eqb x x) (same_row xs xs) (eq-eqb x x refl) (same_row_refl xs)

pub same_rows_refl : (xs : Relation) → same_rows xs xs ≡ true
same_rows_refl [] = refl
same_rows_refl (x ∷ xs) = and_from (same_row x x) (same_rows xs xs) (same_row_refl x) (same_rows_refl xs)

same_row_eq : (xs ys : List ℕ) → same_row xs ys ≡ true → xs ≡ ys
same_row_eq [] [] e = refl
same_row_eq [] (y ∷ ys) e = absurd (false≢true e)
same_row_eq (x ∷ xs) [] e = absurd (false≢true e)
same_row_eq (x ∷ xs) (y ∷ ys) e = let k = and_parts (eqb x y) (same_row xs ys) e in ap₂ ◌∷◌ (eqb-true x y k.0) (same_row_eq xs ys k.1)

pub same_rows_eq : (xs ys : Relation) → same_rows xs ys ≡ true → xs ≡ ys
same_rows_eq [] [] e = refl
same_rows_eq [] (y ∷ ys) e = absurd (false≢true e)
same_rows_eq (x ∷ xs) [] e = absurd (false≢true e)
same_rows_eq (x ∷ xs) (y ∷ ys) e = let k = and_parts (same_row x y) (same_rows xs ys) e in ap₂ ◌∷◌ (same_row_eq x y k.0) (same_rows_eq xs ys k.1)

-- the choice is a placing: each row of the pattern becomes the row that was chosen for it
abbrev pub placing : Pattern → Relation → Bool
placing p rs = same_rows (image (read p rs) p) rs

abbrev pub kept : (Relation → Bool) → List Relation → List Relation
kept test [] = []
kept test (x ∷ xs) = cond (test x) (x ∷ kept test xs) (kept test xs)

abbrev pub placings : Pattern → Relation → List Relation
placings p rel = kept (placing p) (choices p rel)

kept-member : (test : Relation → Bool) (xs : List Relation) (x : Relation) → x ∈ kept test xs → (x ∈ xs) × (test x ≡ true)
kept-member test [] x m = elim m [ ]
kept-member test (y ∷ ys) x m = go (test y) refl m (kept-member test ys x)
  where
    go : (k : Bool) → test y ≡ k → x ∈ cond k (y ∷ kept test ys) (kept test ys) → (x ∈ kept test ys → (x ∈ ys) × (test x ≡ true)) →
        (x ∈ (y ∷ ys)) × (test x ≡ true)
    go true e m rest = elim (Memᴰ.cases_cons m) [ inl k ↦ (Memᴰ.head k, ap test k ∙ e) | inr k ↦ (let r = rest k in (Memᴰ.tail r.0, r.1)) ]
    go false e m rest = let r = rest m in (Memᴰ.tail r.0, r.1)

member_kept : (test : Relation → Bool) (xs : List Relation) (x : Relation) → x ∈ xs → test x ≡ true → x ∈ kept test xs
member_kept test [] x m h = elim m [ ]
member_kept test (y ∷ ys) x m h = go (test y) refl (Memᴰ.cases_cons m) (λ k. member_kept test ys x k h)
  where
    go : (k : Bool) → test y ≡ k → (x ≡ y) ⊎ (x ∈ ys) → (x ∈ ys → x ∈ kept test ys) → x ∈ cond k (y ∷ kept test ys) (kept test ys)
    go true e (inl k) rest = Memᴰ.head k
    go true e (inr k) rest = Memᴰ.tail (rest k)
    go false e (inl k) rest = absurd (false≢true (sym e ∙ ap test (sym k) ∙ h))
    go false e (inr k) rest = rest k

combine-member : (rel : Relation) (cs : List Relation) (r : List ℕ) (c : Relation) → r ∈ rel → c ∈ cs → (r ∷ c) ∈ combine rel cs
combine-member [] cs r c m n = elim m [ ]
combine-member (x ∷ rel) cs r c (Memᴰ.head e) n =
    Memᴰ.append_left (combine rel cs) (Memᴰ.cast (ap (λ (z : List ℕ). z ∷ c) e) (Memᴰ.map (λ (c : Relation). x ∷ c) n))
combine-member (x ∷ rel) cs r c (Memᴰ.tail m) n = Memᴰ.append_right (map (λ (c : Relation). x ∷ c) cs) (combine-member rel cs r c m n)

-- a choice out of combine has a row of the relation first, and a choice after it
combine-cases : (rel : Relation) (cs : List Relation) (c : Relation) → c ∈ combine rel cs →
    (r : List ℕ) × (r ∈ rel) × (d : Relation) × (d ∈ cs) × (c ≡ r ∷ d)
combine-cases [] cs c m = elim m [ ]
combine-cases (x ∷ rel) cs c m = go (Memᴰ.append_cases (map (λ (d : Relation). x ∷ d) cs) m) (combine-cases rel cs c)
  where
    go : (c ∈ map (λ (d : Relation). x ∷ d) cs) ⊎ (c ∈ combine rel cs) →
        (c ∈ combine rel cs → (r : List ℕ) × (r ∈ rel) × (d : Relation) × (d ∈ cs) × (c ≡ r ∷ d)) →
        (r : List ℕ) × (r ∈ (x ∷ rel)) × (d : Relation) × (d ∈ cs) × (c ≡ r ∷ d)
    go (inl k) rest = let q = Memᴰ.of_map (λ (d : Relation). x ∷ d) cs k in (x, Memᴰ.head refl, q.0, q.1, sym q.2)
    go (inr k) rest = let q = rest k in (q.0, Memᴰ.tail q.1, q.2, q.3, q.4)

choice_rows : (p : Pattern) (rel c : Relation) → c ∈ choices p rel → (row : List ℕ) → row ∈ c → row ∈ rel
choice_rows [] rel c m row n = go (Memᴰ.cases_cons m)
  where
    go : (c ≡ []) ⊎ (c ∈ []) → row ∈ rel
    go (inl e) = absurd (none (subst (λ (d : Relation). row ∈ d) e n))
      where
        none : row ∈ [] → ⊥
        none k = elim k [ ]
    go (inr k) = elim k [ ]
choice_rows (x ∷ p) rel c m row n =
    let q = combine-cases rel (choices p rel) c m in
    go q.0 q.1 q.2 (Memᴰ.cases_cons (subst (λ (d : Relation). row ∈ d) q.4 n)) (choice_rows p rel q.2 q.3 row)
  where
    go : (r : List ℕ) → r ∈ rel → (d : Relation) → (row ≡ r) ⊎ (row ∈ d) → (row ∈ d → row ∈ rel) → row ∈ rel
    go r m d (inl e) rest = Memᴰ.cast e m
    go r m d (inr k) rest = rest k

-- a choice that passes is a placing
pub choice_places : (p : Pattern) (rel c : Relation) → c ∈ placings p rel → Places (read p c) p rel
choice_places p rel c m row n =
    let k = kept-member (placing p) (choices p rel) c m in
    choice_rows p rel c k.0 (map (at (read p c)) row)
    (subst (λ (d : Relation). map (at (read p c)) row ∈ d) (same_rows_eq (image (read p c) p) c k.1) (Memᴰ.map (map (at (read p c))) n))

-- a placing makes a choice, from which it can be read
places_choice : (p : Pattern) (rel : Relation) (f : Valuation) → Places f p rel → image f p ∈ choices p rel
places_choice [] rel f h = Memᴰ.head refl
places_choice (row ∷ p) rel f h =
    combine-member rel (choices p rel) (map (at f) row) (image f p) (h row (Memᴰ.head refl)) (places_choice p rel f (λ r m. h r (Memᴰ.tail m)))

read-in_row : (row : List Term) (f d : Valuation) (v : ℕ) → (Variable v ∈ row) ⊎ (d v ≡ f v) → read_row row (map (at f) row) d v ≡ f v
read-in_row [] f d v (inl m) = elim m [ ]
read-in_row [] f d v (inr e) = e
read-in_row (Constant c ∷ row) f d v (inl (Memᴰ.head e)) = let z : ◌≡◌ {A = ℕ} 0 1 = cc in absurd (omega arith)
read-in_row (Constant c ∷ row) f d v (inl (Memᴰ.tail m)) = read-in_row row f d v (inl m)
read-in_row (Constant c ∷ row) f d v (inr e) = read-in_row row f d v (inr e)
read-in_row (Variable u ∷ row) f d v (inl (Memᴰ.head e)) =
    let z : u ≡ v = cc in
    cond_both (eqb u v) (f u) (read_row row (map (at f) row) d v) (λ k. k ≡ f v) (λ k. ap f z) (λ k. absurd (eqb-false u v k z))
read-in_row (Variable u ∷ row) f d v (inl (Memᴰ.tail m)) =
    cond_both (eqb u v) (f u) (read_row row (map (at f) row) d v) (λ k. k ≡ f v) (λ k. ap f (eqb-true u v k)) (λ k. read-in_row row f d v (inl m))
read-in_row (Variable u ∷ row) f d v (inr e) =
    cond_both (eqb u v) (f u) (read_row row (map (at f) row) d v) (λ k. k ≡ f v) (λ k. ap f (eqb-true u v k)) (λ k. read-in_row row f d v (inr e))

pub read-image : (p : Pattern) (f : Valuation) (v : ℕ) (row : List Term) → row ∈ p → Variable v ∈ row → read p (image f p) v ≡ f v
read-image [] f v row m n = elim m [ ]
read-image (x ∷ p) f v row (Memᴰ.head e) n = read-in_row x f (read p (image f p)) v (inl (subst (λ (r : List Term). Variable v ∈ r) e n))
read-image (x ∷ p) f v row (Memᴰ.tail m) n = read-in_row x f (read p (image f p)) v (inr (read-image p f v row m n))

pub read_known : (p : Pattern) (f : Valuation) (x : Term) → Known p x → at (read p (image f p)) x ≡ at f x
read_known p f (Constant c) k = refl
read_known p f (Variable v) k = read-image p f v k.0 k.1 k.2

read-term : (p : Pattern) (f : Valuation) (row : List Term) → row ∈ p → (x : Term) → x ∈ row → at (read p (image f p)) x ≡ at f x
read-term p f row m (Constant c) n = refl
read-term p f row m (Variable v) n = read-image p f v row m n

image-passes : (p : Pattern) (f : Valuation) → placing p (image f p) ≡ true
image-passes p f =
    subst (λ (d : Relation). same_rows d (image f p) ≡ true)
    (sym (map_on (map (at (read p (image f p)))) (map (at f)) p (λ row m. map_on (at (read p (image f p))) (at f) row (read-term p f row m))))
    (same_rows_refl (image f p))

pub places_placings : (p : Pattern) (rel : Relation) (f : Valuation) → Places f p rel → image f p ∈ placings p rel
places_placings p rel f h = member_kept (placing p) (choices p rel) (image f p) (places_choice p rel f h) (image-passes p f)
