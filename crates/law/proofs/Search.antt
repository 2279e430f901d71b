-- A search for an open spot.
use Rattle.std.proofs.Common.{◌≡◌, ℕ, Bool, true, false, not, ◌&&◌, eqb, ◌≢◌, ◌⊎◌, List, [], ◌∷◌, sym, refl, ap, ◌∙◌, subst, inl, inr, arith}
use mathlib.Core.Path.{fun_ext}
use mathlib.Core.List.Memᴰ
use Rattle.std.proofs.lemmas.Bool.{eq-eqb, ne_eqb, eqb-true, false≢true, and_parts, and_from}
use Rattle.rules.specs.declared.term.Term.{Term}
use Rattle.rules.specs.declared.term.Kind.{Kind}
use Rattle.rules.specs.declared.term.Kind.TheVariants.{Functional, Equality}
use Rattle.rules.specs.Rules.{◌∈◌, Relation, Pattern, Valuation, at, Rule, Agree}
use Rattle.rules.specs.Books.{Stands, WellFormed}
use Rattle.law.specs.Runs.{OpenSpot}
use Rattle.law.proofs.Placings.{image, read, same_rows, same_rows_refl, same_rows_eq, placings, choice_places, places_placings, read-image, read_known}

abbrev pub all_agree : List ℕ → Valuation → Valuation → Bool
all_agree [] f g = true
all_agree (v ∷ vs) f g = eqb (f v) (g v) && all_agree vs f g

abbrev pub agrees : Kind → List ℕ → Pattern → Relation → Relation → Bool
agrees Functional left p rs rs' = all_agree left (read p rs) (read p rs')
agrees Equality left p rs rs' = same_rows rs rs'

-- what a search finds: nothing, or a spot with its two numbers
pub data Found : Type 0 where
  nothing : Found
  spot : ℕ → ℕ → Found

abbrev pub or_else : Found → Found → Found
or_else nothing k = k
or_else (spot x y) k = spot x y

abbrev pub first_found : {A : Type 0} → (A → Found) → List A → Found
first_found F [] = nothing
first_found F (a ∷ rest_of) = or_else (F a) (first_found F rest_of)

abbrev pub found_if : Bool → Found → Found
found_if true k = k
found_if false k = nothing

abbrev pub pair_spot : Valuation → Valuation → Term × Term → Found
pair_spot f g p = found_if (not (eqb (at f p.0) (at g p.1))) (spot (at f p.0) (at g p.1))

abbrev pub choice_spot : Rule → Relation → Relation → Found
choice_spot r rs rs' = found_if (agrees r.kind r.left r.pattern rs rs') (first_found (pair_spot (read r.pattern rs) (read r.pattern rs')) r.pairs)

abbrev pub rule_spot : Relation → Rule → Found
rule_spot rel r = first_found (λ rs. first_found (λ rs'. choice_spot r rs rs') (placings r.pattern rel)) (placings r.pattern rel)

abbrev pub find_spot : List Rule → Relation → Found
find_spot rules rel = first_found (λ r. rule_spot rel r) rules

-- the searches' laws
spot_apart : (x y : ℕ) → nothing ≡ spot x y → ⊥
spot_apart x y e = let z : ◌≡◌ {A = ℕ} 0 1 = cc in omega arith

found_some : {A : Type 0} (F : A → Found) (xs : List A) (x y : ℕ) → first_found F xs ≡ spot x y → (a : A) × (a ∈ xs) × (F a ≡ spot x y)
found_some F [] x y e = absurd (spot_apart x y e)
found_some {A} F (a ∷ rest_of) x y e = go (F a) refl e (found_some F rest_of x y)
  where
    go : (k : Found) → F a ≡ k → or_else k (first_found F rest_of) ≡ spot x y →
        (first_found F rest_of ≡ spot x y → (c : A) × (c ∈ rest_of) × (F c ≡ spot x y)) → (c : A) × (c ∈ (a ∷ rest_of)) × (F c ≡ spot x y)
    go nothing here e rest = let r = rest e in (r.0, Memᴰ.tail r.1, r.2)
    go (spot u w) here e rest = (a, Memᴰ.head refl, here ∙ e)

found_none : {A : Type 0} (F : A → Found) (xs : List A) → first_found F xs ≡ nothing → (a : A) → a ∈ xs → F a ≡ nothing
found_none F [] e a m = elim m [ ]
found_none {A} F (c ∷ cs) e a m = go (F c) refl e (Memᴰ.cases_cons m) (found_none F cs)
  where
    go : (k : Found) → F c ≡ k → or_else k (first_found F cs) ≡ nothing → (a ≡ c) ⊎ (a ∈ cs) →
        (first_found F cs ≡ nothing → (a : A) → a ∈ cs → F a ≡ nothing) → F a ≡ nothing
    go nothing here e (inl k) rest = ap F k ∙ here
    go nothing here e (inr k) rest = rest e a k
    go (spot u w) here e k rest = absurd (spot_apart u w (sym e))

if_some : (t : Bool) (k : Found) (x y : ℕ) → found_if t k ≡ spot x y → (t ≡ true) × (k ≡ spot x y)
if_some true k x y e = (refl, e)
if_some false k x y e = absurd (spot_apart x y e)

if_none : (t : Bool) (k : Found) → found_if t k ≡ nothing → t ≡ true → k ≡ nothing
if_none true k e h = e
if_none false k e h = absurd (false≢true h)

all_agree_true : (left : List ℕ) (f g : Valuation) → ((v : ℕ) → v ∈ left → f v ≡ g v) → all_agree left f g ≡ true
all_agree_true [] f g h = refl
all_agree_true (v ∷ vs) f g h =
    and_from (eqb (f v) (g v)) (all_agree vs f g) (eq-eqb (f v) (g v) (h v (Memᴰ.head refl))) (all_agree_true vs f g (λ u m. h u (Memᴰ.tail m)))

true_all_agree : (left : List ℕ) (f g : Valuation) → all_agree left f g ≡ true → (v : ℕ) → v ∈ left → f v ≡ g v
true_all_agree [] f g e v m = elim m [ ]
true_all_agree (u ∷ us) f g e v m =
    let k = and_parts (eqb (f u) (g u)) (all_agree us f g) e in
    go (eqb-true (f u) (g u) k.0) (Memᴰ.cases_cons m) (true_all_agree us f g k.1 v)
  where
    go : f u ≡ g u → (v ≡ u) ⊎ (v ∈ us) → (v ∈ us → f v ≡ g v) → f v ≡ g v
    go k (inl e) rest = ap f e ∙ k ∙ sym (ap g e)
    go k (inr m) rest = rest m

agrees-true : (k : Kind) (left : List ℕ) (p : Pattern) → ((v : ℕ) → v ∈ left → Stands v p) → (f g : Valuation) → Agree k left f g →
    agrees k left p (image f p) (image g p) ≡ true
agrees-true Functional left p stand f g h =
    all_agree_true left (read p (image f p)) (read p (image g p))
    (λ v m. let k = stand v m in read-image p f v k.0 k.1 k.2 ∙ h v m ∙ sym (read-image p g v k.0 k.1 k.2))
agrees-true Equality left p stand f g h =
    subst (λ (e : Valuation). same_rows (image f p) (image e p) ≡ true) (fun_ext h) (same_rows_refl (image f p))

true_agrees : (k : Kind) (left : List ℕ) (p : Pattern) (rs rs' : Relation) → agrees k left p rs rs' ≡ true → Agree k left (read p rs) (read p rs')
true_agrees Functional left p rs rs' e = true_all_agree left (read p rs) (read p rs') e
true_agrees Equality left p rs rs' e = λ v. ap (λ (d : Relation). read p d v) (same_rows_eq rs rs' e)

not_eqb : (x y : ℕ) → not (eqb x y) ≡ true → x ≢ y
not_eqb x y e k = false≢true (sym (ap not (eq-eqb x y k)) ∙ e)

spot_parts : (u w x y : ℕ) → spot u w ≡ spot x y → (u ≡ x) × (w ≡ y)
spot_parts u w x y e = ((cc), (cc))

apart_after : (u w x y : ℕ) → u ≡ x → w ≡ y → u ≢ w → x ≢ y
apart_after u w x y left right d k = d (left ∙ k ∙ sym right)

-- what the search finds is an open spot
pub found-open : (rules : List Rule) (rel : Relation) (x y : ℕ) → find_spot rules rel ≡ spot x y → OpenSpot rules rel x y
found-open rules rel x y e =
    let r = found_some (λ r. rule_spot rel r) rules x y e in
    let p = r.0.pattern in
    let c = found_some (λ rs. first_found (λ rs'. choice_spot r.0 rs rs') (placings p rel)) (placings p rel) x y r.2 in
    let d = found_some (λ rs'. choice_spot r.0 c.0 rs') (placings p rel) x y c.2 in
    let i = if_some (agrees r.0.kind r.0.left p c.0 d.0) (first_found (pair_spot (read p c.0) (read p d.0)) r.0.pairs) x y d.2 in
    let q = found_some (pair_spot (read p c.0) (read p d.0)) r.0.pairs x y i.1 in
    let u = at (read p c.0) q.0.0 in
    let w = at (read p d.0) q.0.1 in
    let j = if_some (not (eqb u w)) (spot u w) x y q.2 in
    let ends = spot_parts u w x y j.1 in
    record {
      rule = r.0;
      listed = r.1;
      first = read p c.0;
      second = read p d.0;
      compared = record {
        first = choice_places p rel c.0 c.1;
        second = choice_places p rel d.0 d.1;
        agree = true_agrees r.0.kind r.0.left p c.0 d.0 i.0;
      };
      pair = q.0;
      paired = q.1;
      left_is = ends.0;
      right_is = ends.1;
      differ = apart_after u w x y ends.0 ends.1 (not_eqb u w j.0);
    }

-- where it finds nothing there is none
pub nothing-open : (width : ℕ) (rules : List Rule) (rel : Relation) → ((r : Rule) → r ∈ rules → WellFormed width r) → find_spot rules rel ≡ nothing →
    (x y : ℕ) → OpenSpot rules rel x y → ⊥
nothing-open width rules rel fit e x y o =
    let r = o.rule in
    let p = r.pattern in
    let ok = fit r o.listed in
    let c = image o.first p in
    let d = image o.second p in
    let e₁ = found_none (λ r. rule_spot rel r) rules e r o.listed in
    let e₂ =
    found_none (λ rs. first_found (λ rs'. choice_spot r rs rs') (placings p rel)) (placings p rel) e₁ c
    (places_placings p rel o.first o.compared.first)
    in
    let e₃ = found_none (λ rs'. choice_spot r c rs') (placings p rel) e₂ d (places_placings p rel o.second o.compared.second) in
    let e₄ =
    if_none (agrees r.kind r.left p c d) (first_found (pair_spot (read p c) (read p d)) r.pairs) e₃
    (agrees-true r.kind r.left p ok.left_stands o.first o.second o.compared.agree)
    in
    let e₅ = found_none (pair_spot (read p c) (read p d)) r.pairs e₄ o.pair o.paired in
    let u = at (read p c) o.pair.0 in
    let w = at (read p d) o.pair.1 in
    let known = ok.pairs_known o.pair o.paired in
    let left : u ≡ x = read_known p o.first o.pair.0 known.0 ∙ o.left_is in
    let right : w ≡ y = read_known p o.second o.pair.1 known.1 ∙ o.right_is in
    let apart : not (eqb u w) ≡ true = ap not (ne_eqb u w (λ k. o.differ (sym left ∙ k ∙ right))) in
    spot_apart u w (sym (if_none (not (eqb u w)) (spot u w) e₅ apart))
