-- What a key list means is well formed.
use Rattle.std.specs.Prelude.{◌≡◌, ℕ, zero, suc, ◌+◌, ◌<◌, ◌≤◌, Bool, true, false, cond, ◌⊎◌, List, [], ◌∷◌, map, length, filter, refl}
use Rattle.std.proofs.Common.{sym, ap, subst, ◌∙◌, inl, inr, ⊎_elim, arith, eqb-true, eq-eqb}
use mathlib.Core.List.Memᴰ
use Rattle.std.specs.List.{range_with_len}
use Rattle.std.proofs.lemmas.List.FromFn.{length-range_with_len, length-map-range_with_len}
use Rattle.rules.specs.declared.term.Term.{Term}
use Rattle.rules.specs.declared.term.Term.TheVariants.{Variable}
use Rattle.rules.specs.Rules.{◌∈◌, Rule}
use Rattle.rules.specs.Books.{Small, Stands, Known, WellFormed, WellFormedBook}
use Rattle.keys.specs.Keys.{HasBit, has_bit, columns, variables, twice, key_rule, key_rules, keys_meaning}

-- what a filter keeps
module _ {X : Type 0} (test : X → Bool) where
  keep_in_by : (x y : X) (ys : List X) (b : Bool) → b ≡ test y → (x ∈ filter test ys → (x ∈ ys) × (test x ≡ true)) → x ∈ cond b (y ∷ filter test ys) (filter test ys) → (x ∈ (y ∷ ys)) × (test x ≡ true)
  keep_in_by x y ys true e below m = ⊎_elim (λ (h : x ≡ y). (Memᴰ.head h, ap test h ∙ sym e)) (λ (m' : x ∈ filter test ys). (Memᴰ.tail (below m').0, (below m').1)) (Memᴰ.cases_cons m)
  keep_in_by x y ys false e below m = (Memᴰ.tail (below m).0, (below m).1)

  pub keep_in : (x : X) (xs : List X) → x ∈ filter test xs → (x ∈ xs) × (test x ≡ true)
  keep_in x [] m = absurd (Memᴰ.not-nil m)
  keep_in x (y ∷ ys) m = keep_in_by x y ys (test y) refl (keep_in x ys) m

  in_keep_by : (x y : X) (ys : List X) (b : Bool) → b ≡ test y → test x ≡ true → (x ≡ y) ⊎ (x ∈ filter test ys) → x ∈ cond b (y ∷ filter test ys) (filter test ys)
  in_keep_by x y ys true e t (inl h) = Memᴰ.head h
  in_keep_by x y ys true e t (inr m) = Memᴰ.tail m
  in_keep_by x y ys false e t (inl h) = let same = ap test h in let z : ◌≡◌ {A = ℕ} 0 1 = cc in absurd (omega arith)
  in_keep_by x y ys false e t (inr m) = m

  pub in_keep : (x : X) (xs : List X) → x ∈ xs → test x ≡ true → x ∈ filter test xs
  in_keep x [] m t = absurd (Memᴰ.not-nil m)
  in_keep x (y ∷ ys) m t = in_keep_by x y ys (test y) refl t (⊎_elim (λ (h : x ≡ y). inl h) (λ (m' : x ∈ ys). inr (in_keep x ys m' t)) (Memᴰ.cases_cons m))

  keep_short_by : (y : X) (ys : List X) (b : Bool) → length (filter test ys) ≤ length ys → length (cond b (y ∷ filter test ys) (filter test ys)) ≤ length (y ∷ ys)
  keep_short_by y ys true h = omega arith
  keep_short_by y ys false h = omega arith

  pub keep_short : (xs : List X) → length (filter test xs) ≤ length xs
  keep_short [] = omega arith
  keep_short (y ∷ ys) = keep_short_by y ys (test y) (keep_short ys)

-- what counting comes by
pub count_in : (v a n : ℕ) → v ∈ range_with_len a n → (a ≤ v) × (v < a + n)
count_in v a zero m = absurd (Memᴰ.not-nil m)
count_in v a (suc n) m = ⊎_elim (λ (h : v ≡ a). (omega arith, omega arith)) (λ (m' : v ∈ range_with_len (a + 1) n). let h = count_in v (a + 1) n m' in (omega arith, omega arith)) (Memᴰ.cases_cons m)

pub in_count : (v a n d : ℕ) → v ≡ a + d → d < n → v ∈ range_with_len a n
in_count v a zero d e h = absurd (omega arith)
in_count v a (suc n) zero e h = Memᴰ.head (omega arith)
in_count v a (suc n) (suc d) e h = Memᴰ.tail (in_count v (a + 1) n d (omega arith) (omega arith))

-- the columns of a byte are those whose bits are set
pub column_in : (width byte v : ℕ) → v ∈ columns width byte → (v < width) × HasBit byte v
column_in width byte v m =
    let k = keep_in (has_bit byte) v (range_with_len 0 width) m in
    let h = count_in v 0 width k.0 in
    (omega arith, eqb-true _ _ k.1)

pub in_column : (width byte v : ℕ) → v < width → HasBit byte v → v ∈ columns width byte
in_column width byte v h b = in_keep (has_bit byte) v (range_with_len 0 width) (in_count v 0 width v (omega arith) h) (eq-eqb _ _ b)

columns_short : (width byte : ℕ) → length (columns width byte) ≤ width
columns_short width byte = let h = keep_short (has_bit byte) (range_with_len 0 width) in let e = length-range_with_len 0 width in omega arith

map_length : {X Y : Type 0} (f : X → Y) (xs : List X) → length (map f xs) ≡ length xs
map_length f [] = refl
map_length f (x ∷ xs) = ap suc (map_length f xs)

stands : (width v : ℕ) → v < width → Stands v (variables width ∷ [])
stands width v h = (variables width, Memᴰ.head refl, Memᴰ.map Variable (in_count v 0 width v (omega arith) h))

rule_well : (width left right : ℕ) → width ≤ 8 → WellFormed width (key_rule width left right)
rule_well width left right h = record {
  some_row = omega arith;
  few_rows = omega arith;
  of_width = λ row m. ap length (Memᴰ.eq_of_singleton m) ∙ length-map-range_with_len Variable 0 width;
  small = λ row m t k. small_in row t (Memᴰ.eq_of_singleton m) k;
  few_left = let e = columns_short width left in omega arith;
  left_fits = tt;
  left_stands = λ v m. stands width v (column_in width left v m).0;
  few_pairs = let e = columns_short width right in let k = map_length twice (columns width right) in omega arith;
  pairs_known = λ p m. pair_known p (Memᴰ.of_map twice (columns width right) m);
  pairs_fit = λ p m. let q = Memᴰ.of_map twice (columns width right) m in (q.0, sym q.2);
}
  where
    small_in : (row : List Term) (t : Term) → row ≡ variables width → t ∈ row → Small t
    small_in row t e m =
        let P : List Term → Type 0 = λ r. t ∈ r in
        let q = Memᴰ.of_map Variable (range_with_len 0 width) (subst P e m) in
        let l = count_in q.0 0 width q.1 in
        let b : q.0 < 32 = omega arith in
        subst Small q.2 b

    pair_known : (p : Term × Term) → (v : ℕ) × (v ∈ columns width right) × (twice v ≡ p) → Known (variables width ∷ []) p.0 × Known (variables width ∷ []) p.1
    pair_known p q =
        let s = stands width q.0 (column_in width right q.0 q.1).0 in
        (subst (Known (variables width ∷ [])) (ap (λ (x : Term × Term). x.0) q.2) s, subst (Known (variables width ∷ [])) (ap (λ (x : Term × Term). x.1) q.2) s)

rules_well : (width : ℕ) (bytes : List ℕ) → width ≤ 8 → (r : Rule) → r ∈ key_rules width bytes → WellFormed width r
rules_well width [] h r m = absurd (Memᴰ.not-nil m)
rules_well width (a ∷ []) h r m = absurd (Memᴰ.not-nil m)
rules_well width (a ∷ b ∷ bytes) h r m = ⊎_elim (λ (e : r ≡ key_rule width a b). subst (WellFormed width) (sym e) (rule_well width a b h)) (λ (m' : r ∈ key_rules width bytes). rules_well width bytes h r m') (Memᴰ.cases_cons m)

rules_few : (width : ℕ) (bytes : List ℕ) → length (key_rules width bytes) ≤ length bytes
rules_few width [] = omega arith
rules_few width (a ∷ []) = omega arith
rules_few width (a ∷ b ∷ bytes) = let h = rules_few width bytes in omega arith

pub keys_well : (width : ℕ) (bytes : List ℕ) → 1 ≤ width → width ≤ 8 → length bytes ≤ 512 → WellFormedBook (keys_meaning width bytes)
keys_well width bytes some narrow few = record {
  some_width = some;
  small_width = narrow;
  few = let h = rules_few width bytes in omega arith;
  rules_fit = rules_well width bytes narrow;
}
