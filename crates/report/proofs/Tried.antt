-- What comes of trying a target.
use Rattle.std.proofs.Common.{◌≡◌, ℕ, zero, suc, ◌<◌, List, [], ◌∷◌, length, get_or, IsErrAnd, Some, Ok, Err, Result, refl, ap, subst, ⊎_elim, arith, MatchResult}
use mathlib.Core.List.Memᴰ
use Rattle.std.specs.List.{slice_get}
use Rattle.std.proofs.lemmas.Option.{slice_get-get_or}
use Rattle.std.proofs.lemmas.List.{get_or_past}
use Rattle.std.proofs.lemmas.Bool.{cases_lt}
use Rattle.rules.specs.Rules.{◌∈◌, Rule}
use Rattle.rules.specs.Books.{BookMeaning, WellFormed, WellFormedBook}
use Rattle.rules.specs.Doubled.{doubled_rows}
use Rattle.law.specs.Groups.{State, Alone}
use Rattle.law.specs.Calls.{View, Blank, Going, fresh, Done, Refused, Starts, no_rule, targets_width, begun, Finished, Finishes}
use Rattle.writing.specs.Outcomes.{Outcome, Follows, Fails, Narrow}
use Rattle.outcomes.specs.Due.{Due, DueAt}
use Rattle.outcomes.specs.Laws.{outcome_of}
use Rattle.outcomes.proofs.All.{outcomes_due}

pub nth_member : {X : Type 0} (xs : List X) (i : ℕ) (x : X) → slice_get xs i ≡ Some x → x ∈ xs
nth_member [] i x e = let z : ◌≡◌ {A = ℕ} 0 1 = cc in absurd (omega arith)
nth_member (y ∷ ys) zero x e = let same : x ≡ y = cc in Memᴰ.head same
nth_member (y ∷ ys) (suc i) x e = Memᴰ.tail (nth_member ys i x e)

nth_there : {X : Type 0} (xs : List X) (i : ℕ) → i < length xs → (x : X) × (slice_get xs i ≡ Some x)
nth_there [] i h = absurd (omega arith)
nth_there (x ∷ xs) zero h = (x, refl)
nth_there (x ∷ xs) (suc i) h = nth_there xs i (omega arith)

get_or-member : {X : Type 0} (xs : List X) (i : ℕ) (d : X) → i < length xs → get_or xs i d ∈ xs
get_or-member xs i d h = nth_member xs i (get_or xs i d) (slice_get-get_or xs i d h)

pub err_cases : {X E : Type 0} (r : Result X E) (P : E → Type 0) (Q : X → Type 0) (B : Type 0) → IsErrAnd r P → B → MatchResult r Q (λ _. B)
err_cases (Ok x) P Q B h b = absurd h
err_cases (Err e) P Q B h b = b

-- a start that is not refused, and one that is
pub record Begins (b targets : BookMeaning) (k : ℕ) (y : View) : Type 0 where
  pub target : Rule
  pub state : State
  pub listed : slice_get targets.rules k ≡ Some target
  pub width : targets.width ≡ b.width
  pub alone : Alone (doubled_rows target) state
  pub is : y ≡ Going (fresh targets.width target state)

pub begins : (b targets : BookMeaning) (k : ℕ) {x y : View} → x ≡ Blank → Starts b targets k x Done y → Begins b targets k y
begins b targets k {x} {y} e s = go (subst (λ (z : View). Starts b targets k z Done y) e s)
  where
    go : {z : View} → Starts b targets k Blank Done z → Begins b targets k z
    go (begun {t = t} {s = s} listed same alone) = record { target = t; state = s; listed = listed; width = same; alone = alone; is = refl }

pub refuses : (b targets : BookMeaning) (k : ℕ) {x y : View} {number at : ℕ} → x ≡ Blank → Starts b targets k x (Refused number at) y → targets.width ≡ b.width → k < length targets.rules → ⊥
refuses b targets k {x} {y} {number} {at} e s w h = go (subst (λ (z : View). Starts b targets k z (Refused number at) y) e s)
  where
    go : {z : View} {m p : ℕ} → Starts b targets k Blank (Refused m p) z → ⊥
    go (no_rule past) = omega arith
    go (targets_width there differ) = differ w

module _ (b : BookMeaning) (book_fits : WellFormedBook b) (targets : BookMeaning) (targets_fit : WellFormedBook targets) (w : targets.width ≡ b.width) where
  pub target_fits : (i : ℕ) (t : Rule) → slice_get targets.rules i ≡ Some t → WellFormed b.width t
  target_fits i t e = subst (λ (n : ℕ). WellFormed n t) w (targets_fit.rules_fit t (nth_member targets.rules i t e))

  -- every target has an outcome that is due to it
  pub due-ends : (i : ℕ) → i < length targets.rules → (o : Outcome) × DueAt b targets i o
  due-ends i h =
      let t = nth_there targets.rules i h in
      let o = outcomes_due.some b book_fits t.0 (target_fits i t.0 t.1) in
      (o.0, record { target = t.0; listed = t.1; is_due = o.1 })

  narrow : (t : Rule) → WellFormed b.width t → (o : Outcome) → Due b t o → Narrow o
  narrow t fits Follows d i = omega (arith, ap length (get_or_past {X = List ℕ} [] i [] (omega arith)))
  narrow t fits (Fails rows) d i =
      let few = outcomes_due.few_rows b book_fits t fits rows d in
      let small = book_fits.small_width in
      ⊎_elim
      (λ h. omega (arith, few.wide (get_or rows i []) (get_or-member rows i [] h)))
      (λ h. omega (arith, ap length (get_or_past rows i [] h)))
      (cases_lt i (length rows))

  -- a trial of the target that is finished tells it
  pub tried_due : (i : ℕ) {y : View} → Begins b targets i y → (f : Finished) → Finishes b y f → DueAt b targets i (outcome_of f)
  tried_due i {y} g f finish =
      let begun-here : Finishes b (Going (fresh b.width g.target g.state)) f =
      subst (λ (n : ℕ). Finishes b (Going (fresh n g.target g.state)) f) w (subst (λ (z : View). Finishes b z f) g.is finish) in
      record {
        target = g.target;
        listed = g.listed;
        is_due = outcomes_due.finished b book_fits g.target (target_fits i g.target g.listed) g.state g.alone f begun-here;
      }

  pub due-narrow : (i : ℕ) (o : Outcome) → DueAt b targets i o → Narrow o
  due-narrow i o d = narrow d.target (target_fits i d.target d.listed) o d.is_due
