-- The record as merging goes on.
use Rattle.std.proofs.Common.{◌≡◌, ℕ, suc, ◌+◌, ◌<◌, ◌≤◌, min, max, true, false, List, length, sym, refl, ap, ◌∙◌, subst, arith}
use Rattle.std.proofs.Math.Nat.{ℕ_set}
use Rattle.std.proofs.Math.Logic.{∥∥₁_elim}
use Rattle.rules.specs.declared.term.Term.{Term}
use Rattle.rules.specs.declared.term.Term.TheVariants.{Constant, Variable}
use Rattle.rules.specs.declared.loaded.LoadedRule.{LoadedRule}
use Rattle.rules.specs.Rules.{◌∈◌, Pattern, Rule}
use Rattle.rules.specs.Books.{BookMeaning, base, WellFormedBook}
use Rattle.rules.specs.Loaded.{Form, meant, Symbolic}
use Rattle.law.specs.Groups.{Entry, current, group_count}
use Rattle.law.specs.Runs.{AtRest, Clashing, Merges, none, more, OpenSpot}
use Rattle.law.specs.Stored.{stored, replaced, Held as Fitting}
use Rattle.law.proofs.Storing.{storing}
use Rattle.search.specs.declared.spot.Spot.{Spot}
use Rattle.search.specs.Spots.{Found, Quiet}
use Rattle.trial.specs.declared.held.Held.{Held}
use Rattle.trial.specs.Views.{rows_of, shows_of, rows_now, groups_of}
use Rattle.trial.specs.Merging.{ClashedAt, MergedAt, MergedOn}
use Rattle.trial.proofs.Opens.{found-open, quiet_rest}

-- the terms of a form are entries
entry-of : (p : Pattern) (row : List Term) → row ∈ p → (t : Term) → t ∈ row → Symbolic t → Entry p t
entry-of p row m (Constant c) k small = small
entry-of p row m (Variable v) k small = (row, m, k)

fitting : (b : BookMeaning) → WellFormedBook b → (width : ℕ) (r : Rule) → Form width r → Fitting b.width b.rules r.pattern
fitting b fits width r form =
    record {
      rules_fit = fits.rules_fit;
      entries = λ row m t k. entry-of r.pattern row m t k (form.small row m t k);
    }

module _ (b : BookMeaning) (fits : WellFormedBook b) where
  -- a merge leaves one group less
  fewer : (h : Held) (shown : List ℕ) (x y : ℕ) → OpenSpot b.rules (current (rows_of h) (stored shown)) x y → base ≤ max x y →
      group_count (rows_of h) (stored shown) ≡ suc (group_count (rows_of h) (stored (replaced (max x y) (min x y) shown)))
  fewer h shown x y o l =
      ∥∥₁_elim h.form (ℕ_set _ _) (λ form. storing.less b.width b.rules (rows_of h) (fitting b fits h.target.width (meant h.target) form) shown x y o l)

  pub room : (h : Held) (first turns : ℕ) (s : Spot) → Found (rows_now h) b.rules first turns s → base ≤ max s.one s.other →
      h.merges + 1 + group_count (rows_of h) (stored (replaced (max s.one s.other) (min s.one s.other) h.shown)) ≤ 64
  room h first turns s f l = omega (arith, h.few, fewer h h.shown s.one s.other (found-open (rows_now h) b.rules first turns s f) l)

  module _ (h : Held) where
    -- nothing merged yet
    pub merged_none : h.clashed ≡ false → MergedOn b.rules h h 0 false
    merged_none calm = record { target = refl; count = omega arith; clash = calm; merges = none; less = omega arith }

    module _ (h' : Held) (m : ℕ) (on : MergedOn b.rules h h' m false) where
      rows_are : rows_of h' ≡ rows_of h
      rows_are = ap (λ (l : LoadedRule). (meant l).pattern) on.target

      pub spot_open : (first turns : ℕ) (s : Spot) → Found (rows_now h') b.rules first turns s → OpenSpot b.rules (current (rows_of h) (shows_of h')) s.one s.other
      spot_open first turns s f =
          subst (λ (p : Pattern). OpenSpot b.rules (current p (shows_of h')) s.one s.other) rows_are
          (found-open (rows_now h') b.rules first turns s f)

      pub rests : (first turns : ℕ) → turns ≡ length b.rules → Quiet (rows_now h') b.rules first turns → AtRest b.rules (rows_of h) (shows_of h')
      rests first turns all quiet =
          subst (λ (p : Pattern). AtRest b.rules p (shows_of h')) rows_are
          (quiet_rest (rows_now h') b.rules first (subst (Quiet (rows_now h') b.rules first) all quiet))

      -- one merge more
      pub merged_more : (first turns : ℕ) (s : Spot) → Found (rows_now h') b.rules first turns s → base ≤ max s.one s.other → (h'' : Held) →
          MergedAt h' s h'' → MergedOn b.rules h h'' (m + 1) false
      merged_more first turns s f l h'' next =
          let o = spot_open first turns s f in
          let one : suc m ≡ m + 1 = omega arith in
          let less = fewer h h'.shown s.one s.other o l in
          let shows = replaced (max s.one s.other) (min s.one s.other) h'.shown in
          let P : List ℕ → Type 0 = λ shown. Merges b.rules (rows_of h) (shows_of h) (stored shown) (m + 1) in
          let Q : List ℕ → Type 0 = λ shown. m + 1 + group_count (rows_of h) (stored shown) ≡ groups_of h in
          record {
            target = next.target ∙ on.target;
            count = omega (arith, next.count, on.count);
            clash = next.clash ∙ on.clash;
            merges = subst P (sym next.shown) (subst (λ (k : ℕ). Merges b.rules (rows_of h) (shows_of h) (stored shows) k) one (more on.merges (storing.pass b.rules (rows_of h) h'.shown s.one s.other o l)));
            less = subst Q (sym next.shown) (omega (arith, less, on.less));
          }

      pub clashed_on : (s : Spot) (h'' : Held) → ClashedAt h' s h'' → MergedOn b.rules h h'' m true
      clashed_on s h'' next =
          let P : List ℕ → Type 0 = λ shown. Merges b.rules (rows_of h) (shows_of h) (stored shown) m in
          let Q : List ℕ → Type 0 = λ shown. m + group_count (rows_of h) (stored shown) ≡ groups_of h in
          record {
            target = next.target ∙ on.target;
            count = next.count ∙ on.count;
            clash = next.clash;
            merges = subst P (sym next.shown) on.merges;
            less = subst Q (sym next.shown) on.less;
          }

pub clashing_on : (rules : List Rule) (h h' h'' : Held) (s : Spot) → ClashedAt h' s h'' → OpenSpot rules (current (rows_of h) (shows_of h')) s.one s.other →
    max s.one s.other < base → Clashing rules (rows_of h) (shows_of h'')
clashing_on rules h h' h'' s next o constants =
    subst (λ (shown : List ℕ). Clashing rules (rows_of h) (stored shown)) (sym next.shown)
    (record { x = s.one; y = s.other; spot = o; constants = constants })
