-- Counting the different numbers of a list.
use Rattle.std.proofs.Common.{◌≡◌, ℕ, zero, suc, ◌+◌, ◌<◌, ◌≤◌, max, Bool, true, false, cond, ◌||◌, eqb, ◌≢◌, ◌⊎◌, List, [], ◌∷◌, ◌++◌, map, sym, refl, ap, ◌∙◌, ap₂, inl, inr, arith}
use mathlib.Core.List.Memᴰ
use Rattle.std.proofs.lemmas.Bool.{cases_eq, cases_Bool, eq-eqb, ne_eqb, or_left, false≢true}
use Rattle.rules.specs.Rules.{◌∈◌}
use Rattle.rules.specs.Doubled.{holds}
use Rattle.rules.proofs.Members.{holds-member, member_holds}
use Rattle.law.specs.Groups.{different}

-- how many numbers below n pass the test
unfoldable tally : (ℕ → Bool) → ℕ → ℕ
tally test zero = 0
tally test (suc n) = cond (test n) 1 0 + tally test n

tally-same : (p q : ℕ → Bool) (n : ℕ) → ((v : ℕ) → v < n → p v ≡ q v) → tally p n ≡ tally q n
unfolding tally
tally-same p q zero h = refl
tally-same p q (suc n) h =
    ap₂ (λ (x : Bool) (k : ℕ). cond x 1 0 + k) (h n (omega arith)) (tally-same p q n (λ v l. h v (omega arith)))

tally-none : (n : ℕ) → tally (λ v. false) n ≡ 0
unfolding tally
tally-none zero = refl
tally-none (suc n) = let e = tally-none n in omega arith

tally-most : (p : ℕ → Bool) (n : ℕ) → tally p n ≤ n
unfolding tally
tally-most p zero = omega arith
tally-most p (suc n) = go (p n) (tally-most p n)
  where
    go : (x : Bool) → tally p n ≤ n → cond x 1 0 + tally p n ≤ suc n
    go true h = omega arith
    go false h = omega arith

-- two tests that differ at m alone, which passes the first and not the second
tally-less : (p q : ℕ → Bool) (m n : ℕ) → m < n → p m ≡ true → q m ≡ false → ((v : ℕ) → v ≢ m → p v ≡ q v) → tally p n ≡ suc (tally q n)
unfolding tally
tally-less p q m zero l e d h = absurd (omega arith)
tally-less p q m (suc n) l e d h = go (cases_eq m n) (λ k. tally-less p q m n k e d h)
  where
    go : (m ≡ n) ⊎ (m ≡ n → ⊥) → (m < n → tally p n ≡ suc (tally q n)) → cond (p n) 1 0 + tally p n ≡ suc (cond (q n) 1 0 + tally q n)
    go (inl k) rest =
        let a : ◌≡◌ {A = ℕ} (cond (p n) 1 0) 1 = ap {B = ℕ} (λ (x : Bool). cond x 1 0) (ap p (sym k) ∙ e) in
        let c : ◌≡◌ {A = ℕ} (cond (q n) 1 0) 0 = ap {B = ℕ} (λ (x : Bool). cond x 1 0) (ap q (sym k) ∙ d) in
        let r = tally-same p q n (λ v lt. h v (λ k'. omega arith)) in
        omega arith
    go (inr k) rest =
        let r = rest (omega arith) in
        let a : ◌≡◌ {A = ℕ} (cond (p n) 1 0) (cond (q n) 1 0) = ap {B = ℕ} (λ (x : Bool). cond x 1 0) (h n (λ k'. k (sym k'))) in
        omega arith

-- the different numbers of a list are the numbers, below a bound, that it holds
different-tally : (xs : List ℕ) (n : ℕ) → ((x : ℕ) → x ∈ xs → x < n) → different xs ≡ tally (λ v. holds xs v) n
different-tally [] n low = sym (tally-none n)
different-tally (x ∷ xs) n low = go (holds xs x) refl (different-tally xs n (λ y m. low y (Memᴰ.tail m)))
  where
    other : (v : ℕ) → v ≢ x → holds (x ∷ xs) v ≡ holds xs v
    other v d = ap (λ (k : Bool). k || holds xs v) (ne_eqb x v (λ e. d (sym e)))

    here : holds (x ∷ xs) x ≡ true
    here = or_left (eqb x x) (holds xs x) (eq-eqb x x refl)

    again : holds xs x ≡ true → (v : ℕ) → (v ≡ x) ⊎ (v ≢ x) → holds xs v ≡ holds (x ∷ xs) v
    again e v (inl k) = ap (holds xs) k ∙ e ∙ sym here ∙ ap (holds (x ∷ xs)) (sym k)
    again e v (inr d) = sym (other v d)

    go : (k : Bool) → holds xs x ≡ k → different xs ≡ tally (λ v. holds xs v) n →
        cond k (different xs) (suc (different xs)) ≡ tally (λ v. holds (x ∷ xs) v) n
    go true e rest = rest ∙ tally-same (λ v. holds xs v) (λ v. holds (x ∷ xs) v) n (λ v l. again e v (cases_eq v x))
    go false e rest =
        ap suc rest ∙
        sym (tally-less (λ v. holds (x ∷ xs) v) (λ v. holds xs v) x n (low x (Memᴰ.head refl)) here e other)

-- a number above each of a list
abbrev bound : List ℕ → ℕ
bound [] = 0
bound (x ∷ xs) = max (suc x) (bound xs)

below_bound : (xs : List ℕ) (x : ℕ) → x ∈ xs → x < bound xs
below_bound [] x m = elim m [ ]
below_bound (y ∷ ys) x m = go (Memᴰ.cases_cons m) (below_bound ys x)
  where
    go : (x ≡ y) ⊎ (x ∈ ys) → (x ∈ ys → x < bound ys) → x < max (suc y) (bound ys)
    go (inl e) rest = omega arith
    go (inr k) rest = let l = rest k in omega arith

holds-alike : (xs ys : List ℕ) (v : ℕ) → (v ∈ xs → v ∈ ys) → (v ∈ ys → v ∈ xs) → holds xs v ≡ holds ys v
holds-alike xs ys v to from = go (cases_Bool (holds xs v)) (cases_Bool (holds ys v))
  where
    go : (holds xs v ≡ true) ⊎ (holds xs v ≡ false) → (holds ys v ≡ true) ⊎ (holds ys v ≡ false) → holds xs v ≡ holds ys v
    go (inl a) b = a ∙ sym (holds-member ys v (to (member_holds xs v a)))
    go (inr a) (inl b) = holds-member xs v (from (member_holds ys v b)) ∙ sym b
    go (inr a) (inr b) = a ∙ sym b

-- a list that lacks m, and else has the numbers of another, has one number less
pub different-less : (xs ys : List ℕ) (m : ℕ) → m ∈ xs → (m ∈ ys → ⊥) →
    ((n : ℕ) → n ≢ m → n ∈ xs → n ∈ ys) → ((n : ℕ) → n ≢ m → n ∈ ys → n ∈ xs) → different xs ≡ suc (different ys)
different-less xs ys m has lacks to from =
    let n = bound (xs ++ ys) in
    different-tally xs n (λ x k. below_bound (xs ++ ys) x (Memᴰ.append_left ys k)) ∙
    tally-less (λ v. holds xs v) (λ v. holds ys v) m n (below_bound (xs ++ ys) m (Memᴰ.append_left ys has)) (holds-member xs m has) gone
    (λ v d. holds-alike xs ys v (to v d) (from v d)) ∙
    sym (ap suc (different-tally ys n (λ x k. below_bound (xs ++ ys) x (Memᴰ.append_right xs k))))
  where
    gone : holds ys m ≡ false
    gone = elim (cases_Bool (holds ys m)) [ inl e ↦ absurd (lacks (member_holds ys m e)) | inr e ↦ e ]

-- there are at most n different numbers below n
pub different-most : (xs : List ℕ) (n : ℕ) → ((x : ℕ) → x ∈ xs → x < n) → different xs ≤ n
different-most xs n low =
    let e = different-tally xs n low in
    let l = tally-most (λ v. holds xs v) n in
    omega arith

tally-part : (p q : ℕ → Bool) (n : ℕ) → ((v : ℕ) → p v ≡ true → q v ≡ true) → tally p n ≤ tally q n
unfolding tally
tally-part p q zero h = omega arith
tally-part p q (suc n) h = go (p n) (q n) (h n) (tally-part p q n h)
  where
    go : (x y : Bool) → (x ≡ true → y ≡ true) → tally p n ≤ tally q n → cond x 1 0 + tally p n ≤ cond y 1 0 + tally q n
    go true true k l = omega arith
    go true false k l = absurd (false≢true (k refl))
    go false true k l = omega arith
    go false false k l = omega arith

-- a part of a list has no more different numbers
pub different-part : (xs ys : List ℕ) → ((n : ℕ) → n ∈ xs → n ∈ ys) → different xs ≤ different ys
different-part xs ys part =
    let n = bound ys in
    let e = different-tally xs n (λ x k. below_bound ys x (part x k)) in
    let e' = different-tally ys n (below_bound ys) in
    let l = tally-part (λ v. holds xs v) (λ v. holds ys v) n (λ v k. holds-member ys v (part v (member_holds xs v k))) in
    omega arith

-- nor has what a function makes of a list
pub different-image : (f : ℕ → ℕ) (xs : List ℕ) → different (map f xs) ≤ different xs
different-image f [] = omega arith
different-image f (x ∷ xs) = go (holds (map f xs) (f x)) (holds xs x) refl refl (different-image f xs)
  where
    go : (k k' : Bool) → holds (map f xs) (f x) ≡ k → holds xs x ≡ k' → different (map f xs) ≤ different xs →
        cond k (different (map f xs)) (suc (different (map f xs))) ≤ cond k' (different xs) (suc (different xs))
    go true true e e' l = l
    go true false e e' l = omega arith
    go false false e e' l = omega arith
    go false true e e' l = absurd (false≢true (sym e ∙ holds-member (map f xs) (f x) (Memᴰ.map f (member_holds xs x e'))))
