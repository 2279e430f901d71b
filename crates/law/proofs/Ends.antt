-- Every trial ends.
use Rattle.std.proofs.Common.{◌≡◌, ℕ, zero, suc, ◌+◌, ◌-◌, ◌<◌, ◌≤◌, min, max, Bool, true, false, cond, eqb, ◌⊎◌, List, [], ◌∷◌, Option, sym, refl, subst, inl, inr, arith}
use mathlib.Core.List.Memᴰ
use Rattle.std.proofs.lemmas.Bool.{cases_eq, cases_lt, cases_Bool}
use Rattle.rules.specs.declared.term.Term.{Term}
use Rattle.rules.specs.Rules.{◌∈◌, Pattern, Rule, at}
use Rattle.rules.specs.Books.{BookMeaning, base, WellFormedBook}
use Rattle.law.specs.declared.outcome.Verdict.{Verdict}
use Rattle.law.specs.declared.outcome.Verdict.TheVariants.{Void, Follows, Fails}
use Rattle.law.specs.Groups.{State, current}
use Rattle.law.specs.Runs.{Merge, Clashing, AtRest, Merges, none, more, Reached, Ended, clash_met, pairs_met, pairs_apart}
use Rattle.law.specs.Calls.{View, Blank, Going, moved, Finished, Finishes, never_begun, clashed_before, ended}
use Rattle.law.specs.Promise.{last_view, target_of}
use Rattle.law.specs.Laws.{EveryTrialEnds}
use Rattle.law.proofs.Starting.{Fit}
use Rattle.law.proofs.Lawful.{Lawful, merges_lawful, few_merges}
use Rattle.law.proofs.Histories.{Sane, good_fit, history_sane}
use Rattle.law.proofs.Search.{Found, nothing, spot, find_spot, found-open, nothing-open}

-- the state after the groups that show as x and y are made one
abbrev pub merge_state : ℕ → ℕ → State → State
merge_state x y s v = cond (eqb (s v) (max x y)) (min x y) (s v)

-- whether both sides of each pair show alike
pub alike : (s : State) (ps : List (Term × Term)) → Reached ps s ⊎ (Reached ps s → ⊥)
alike s [] = inl (λ p m. elim m [ ])
alike s (p ∷ ps) = go (cases_eq (at s p.0) (at s p.1)) (alike s ps)
  where
    go : (at s p.0 ≡ at s p.1) ⊎ (at s p.0 ≡ at s p.1 → ⊥) → Reached ps s ⊎ (Reached ps s → ⊥) →
        Reached (p ∷ ps) s ⊎ (Reached (p ∷ ps) s → ⊥)
    go (inl e) (inl rest) = inl (λ q m. pick q (Memᴰ.cases_cons m))
      where
        pick : (q : Term × Term) → (q ≡ p) ⊎ (q ∈ ps) → at s q.0 ≡ at s q.1
        pick q (inl k) = subst (λ (r : Term × Term). at s r.0 ≡ at s r.1) (sym k) e
        pick q (inr k) = rest q k
    go (inl e) (inr d) = inr (λ all. d (λ q m. all q (Memᴰ.tail m)))
    go (inr d) rest = inr (λ all. d (all p (Memᴰ.head refl)))

module _ (b : BookMeaning) (start : Pattern) (fit : Fit b start) (pairs : List (Term × Term)) where
  pub rest_from : (s : State) → find_spot b.rules (current start s) ≡ nothing → AtRest b.rules start s
  rest_from s e = nothing-open b.width b.rules (current start s) fit.held.rules_fit e

  pub merge_from : (s : State) (x y : ℕ) → find_spot b.rules (current start s) ≡ spot x y → base ≤ max x y →
      Merge b.rules start s (merge_state x y s)
  merge_from s x y e l = record { x = x; y = y; spot = found-open b.rules (current start s) x y e; no_clash = l; merged = λ v k. refl }

  pub clash-from : (s : State) (x y : ℕ) → find_spot b.rules (current start s) ≡ spot x y → max x y < base → Clashing b.rules start s
  clash-from s x y e l = record { x = x; y = y; spot = found-open b.rules (current start s) x y e; constants = l }

  -- an end that merges lead to from s
  pub record EndFrom (s : State) : Type 0 where
    pub last : State
    pub count : ℕ
    pub merges : Merges b.rules start s last count
    pub clash : Bool
    pub verdict : Verdict
    pub ends : Ended b.rules start pairs last clash verdict

  ends_within : (k n m : ℕ) (s₀ s : State) → n + m + k ≡ 65 → Lawful b start s₀ n → Merges b.rules start s₀ s m → EndFrom s₀
  ends_within zero n m s₀ s e l merges =
      let few = few_merges b start fit s (n + m) (merges_lawful b start fit s₀ n l merges) in
      absurd (omega arith)
  ends_within (suc k) n m s₀ s e l merges =
      go (find_spot b.rules (current start s)) refl
      (λ x y h high. ends_within k n (suc m) s₀ (merge_state x y s) (omega arith) l (more merges (merge_from s x y h high)))
    where
      go : (f : Found) → find_spot b.rules (current start s) ≡ f →
          ((x y : ℕ) → find_spot b.rules (current start s) ≡ spot x y → base ≤ max x y → EndFrom s₀) → EndFrom s₀
      go nothing h rest =
          elim (alike s pairs) [
            | inl all ↦ record { last = s; count = m; merges = merges; clash = false; verdict = Follows; ends = pairs_met (rest_from s h) all }
            | inr d ↦ record { last = s; count = m; merges = merges; clash = false; verdict = Fails; ends = pairs_apart (rest_from s h) d }
          ]
      go (spot x y) h rest =
          elim (cases_lt (max x y) base) [
            | inl low ↦ record { last = s; count = m; merges = merges; clash = true; verdict = Follows; ends = clash_met (clash-from s x y h low) }
            | inr high ↦ rest x y h high
          ]

  -- merges lead from every lawful state to an end
  pub ends_from : (s : State) (n : ℕ) → Lawful b start s n → EndFrom s
  ends_from s n l =
      let few = few_merges b start fit s n l in
      ends_within (65 - n) n 0 s s (omega arith) l none

module _ (b : BookMeaning) (book_fits : WellFormedBook b) (o : Option Rule) where
  pub finish_from : (x : View) → Sane b o x → (f : Finished) × Finishes b x f
  finish_from Blank sane = (record { verdict = Void; left = Blank }, never_begun)
  finish_from (Going x) sane = go (cases_Bool x.clashed)
    where
      go : (x.clashed ≡ true) ⊎ (x.clashed ≡ false) → (f : Finished) × Finishes b (Going x) f
      go (inl c) = (record { verdict = Follows; left = Going x }, clashed_before sane.width_is c)
      go (inr c) =
          let e = ends_from b x.rows (good_fit b book_fits o x sane) x.pairs x.shows x.merges sane.lawful in
          (record { verdict = e.verdict; left = Going (moved x e.last e.count e.clash) }, ended sane.width_is c e.merges e.ends)

pub every-ends : EveryTrialEnds
every-ends b fits turns views h = finish_from b fits (target_of turns) (last_view Blank views) (history_sane b fits turns views h)
