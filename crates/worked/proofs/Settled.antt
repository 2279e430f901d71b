-- A search that computes where a run ends.
use Rattle.std.proofs.Common.{◌≡◌, ℕ, zero, suc, max, Bool, true, false, cond, ◌&&◌, eqb, ltb, ◌⊎◌, List, [], ◌∷◌, sym, refl, ap, ◌∙◌, subst, ap₂, inl, inr, arith}
use mathlib.Core.List.Memᴰ
use Rattle.std.proofs.lemmas.Bool.{ltb-true, ltb-false, eq-eqb, eqb-true, false≢true, and_parts, and_from}
use Rattle.rules.specs.declared.term.Term.{Term}
use Rattle.rules.specs.Rules.{◌∈◌, Relation, Pattern, Rule, at}
use Rattle.rules.specs.Books.{BookMeaning, base}
use Rattle.law.specs.declared.outcome.Verdict.{Verdict}
use Rattle.law.specs.declared.outcome.Verdict.TheVariants.{Follows, Fails}
use Rattle.law.specs.Groups.{State, current}
use Rattle.law.specs.Runs.{Merges, more, Reached, Ended, clash_met, pairs_met, pairs_apart}
use Rattle.law.specs.Calls.{Started, Going, rows_told}
use Rattle.law.proofs.Starting.{Fit}
use Rattle.law.proofs.Search.{Found, nothing, spot, find_spot}
use Rattle.law.proofs.Ends.{merge_state, rest_from, merge_from, clash-from}

-- what a run comes to: whether by a clash, the verdict, the merges, and the rows where it fails
pub data Outcome : Type 0 where
  unfinished : Outcome
  gives : Bool → Verdict → ℕ → Relation → Outcome

abbrev pub all_alike : State → List (Term × Term) → Bool
all_alike s [] = true
all_alike s (p ∷ ps) = eqb (at s p.0) (at s p.1) && all_alike s ps

abbrev pub settle : ℕ → List Rule → Pattern → List (Term × Term) → State → ℕ → Outcome
settle zero rules start pairs s n = unfinished
settle (suc k) rules start pairs s n =
    elim (find_spot rules (current start s)) [
      | nothing ↦ cond (all_alike s pairs) (gives false Follows n []) (gives false Fails n (current start s))
      | spot x y ↦ elim (ltb (max x y) base) [ true ↦ gives true Follows n [] | false ↦ settle k rules start pairs (merge_state x y s) (suc n) ]
    ]

alike_right : (s : State) (ps : List (Term × Term)) → all_alike s ps ≡ true → Reached ps s
alike_right s [] e p m = elim m [ ]
alike_right s (q ∷ qs) e p m =
    let k = and_parts (eqb (at s q.0) (at s q.1)) (all_alike s qs) e in
    go (eqb-true (at s q.0) (at s q.1) k.0) (Memᴰ.cases_cons m) (alike_right s qs k.1 p)
  where
    go : at s q.0 ≡ at s q.1 → (p ≡ q) ⊎ (p ∈ qs) → (p ∈ qs → at s p.0 ≡ at s p.1) → at s p.0 ≡ at s p.1
    go e (inl k) rest = subst (λ (r : Term × Term). at s r.0 ≡ at s r.1) (sym k) e
    go e (inr k) rest = rest k

right_alike : (s : State) (ps : List (Term × Term)) → Reached ps s → all_alike s ps ≡ true
right_alike s [] h = refl
right_alike s (q ∷ qs) h =
    and_from (eqb (at s q.0) (at s q.1)) (all_alike s qs) (eq-eqb (at s q.0) (at s q.1) (h q (Memᴰ.head refl)))
    (right_alike s qs (λ p m. h p (Memᴰ.tail m)))

module _ (b : BookMeaning) (start : Pattern) (fit : Fit b start) (pairs : List (Term × Term)) (s₀ : State) (clash : Bool) (v : Verdict) (m : ℕ) (rel : Relation) where
  -- a run that ends so
  pub record Result : Type 0 where
    pub last : State
    pub merges : Merges b.rules start s₀ last m
    pub ends : Ended b.rules start pairs last clash v
    pub rows : v ≡ Fails → current start last ≡ rel
    pub told : (x : Started) → x.rows ≡ start → x.shows ≡ last → rows_told v (Going x) ≡ rel

  result : (s : State) (n : ℕ) → Merges b.rules start s₀ s n → (clash' : Bool) (v' : Verdict) (rel' : Relation) →
      Ended b.rules start pairs s clash' v' → (v' ≡ Fails → current start s ≡ rel') →
      ((x : Started) → x.rows ≡ start → x.shows ≡ s → rows_told v' (Going x) ≡ rel') → gives clash' v' n rel' ≡ gives clash v m rel → Result
  result s n merges clash' v' rel' ends rows told e =
      let n≡ : n ≡ m = cc in
      let c≡ : clash' ≡ clash = cc in
      let v≡ : v' ≡ v = cc in
      let r≡ : rel' ≡ rel = cc in
      record {
        last = s;
        merges = subst (Merges b.rules start s₀ s) n≡ merges;
        ends = subst (λ (c : Bool). Ended b.rules start pairs s c v) c≡ (subst (Ended b.rules start pairs s clash') v≡ ends);
        rows = λ k. rows (v≡ ∙ k) ∙ r≡;
        told = λ x a c. sym (ap (λ (u : Verdict). rows_told u (Going x)) v≡) ∙ told x a c ∙ r≡;
      }

  follows_fails : Follows ≡ Fails → ⊥
  follows_fails e = let z : ◌≡◌ {A = ℕ} 0 1 = cc in omega arith

  rested : (s : State) (n : ℕ) → Merges b.rules start s₀ s n → find_spot b.rules (current start s) ≡ nothing → (k : Bool) → all_alike s pairs ≡ k →
      cond k (gives false Follows n []) (gives false Fails n (current start s)) ≡ gives clash v m rel → Result
  rested s n merges h true a e =
      result s n merges false Follows [] (pairs_met (rest_from b start fit pairs s h) (alike_right s pairs a)) (λ k. absurd (follows_fails k)) (λ x a c. refl) e
  rested s n merges h false a e =
      result s n merges false Fails (current start s)
      (pairs_apart (rest_from b start fit pairs s h) (λ k. false≢true (sym a ∙ right_alike s pairs k))) (λ k. refl) (λ x a c. ap₂ current a c) e

  pub settled : (k : ℕ) (s : State) (n : ℕ) → Merges b.rules start s₀ s n → settle k b.rules start pairs s n ≡ gives clash v m rel → Result
  settled zero s n merges e = let z : ◌≡◌ {A = ℕ} 0 1 = cc in absurd (omega arith)
  settled (suc k) s n merges e = go (find_spot b.rules (current start s)) refl e (λ x y r. settled k (merge_state x y s) (suc n) r)
    where
      go : (f : Found) → find_spot b.rules (current start s) ≡ f →
          elim f [
            | nothing ↦ cond (all_alike s pairs) (gives false Follows n []) (gives false Fails n (current start s))
            | spot x y ↦ elim (ltb (max x y) base) [ true ↦ gives true Follows n [] | false ↦ settle k b.rules start pairs (merge_state x y s) (suc n) ]
          ] ≡
          gives clash v m rel →
          ((x y : ℕ) → Merges b.rules start s₀ (merge_state x y s) (suc n) →
          settle k b.rules start pairs (merge_state x y s) (suc n) ≡ gives clash v m rel → Result) → Result
      go nothing h e rest = rested s n merges h (all_alike s pairs) refl e
      go (spot x y) h e rest = turn (ltb (max x y) base) refl e
        where
          turn : (c : Bool) → ltb (max x y) base ≡ c →
              elim c [ true ↦ gives true Follows n [] | false ↦ settle k b.rules start pairs (merge_state x y s) (suc n) ] ≡ gives clash v m rel → Result
          turn true l e =
              result s n merges true Follows [] (clash_met (clash-from b start fit pairs s x y h (ltb-true (max x y) base l))) (λ k. absurd (follows_fails k)) (λ x a c. refl) e
          turn false l e = rest x y (more merges (merge_from b start fit pairs s x y h (ltb-false (max x y) base l))) e
