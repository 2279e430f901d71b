-- A trial as it starts.
use Rattle.std.proofs.Common.{◌≡◌, ℕ, ◌+◌, ◌<◌, ◌≤◌, false, List, Some, None, Ok, Err, Option, sym, ap, ◌∙◌, subst, arith}
use Rattle.std.proofs.lemmas.Bool.{false≢true}
use Rattle.rules.specs.declared.loaded.LoadedRule.{LoadedRule}
use Rattle.rules.specs.declared.term.Term.TheVariants.{Variable}
use Rattle.rules.specs.Rules.{Pattern, Rule}
use Rattle.rules.specs.Books.{BookMeaning, base, Stands, WellFormedBook}
use Rattle.rules.specs.Doubled.{doubled, doubled_rows, doubled_pairs}
use Rattle.rules.specs.Loaded.{DoubledOf, Form, meant}
use Rattle.law.specs.Groups.{Alone, group_count}
use Rattle.law.specs.Stored.{stored}
use Rattle.law.specs.Calls.{Blank, Going, fresh, Start, Done, Refused, Starts, begun, not_blank, no_rule, targets_width}
use Rattle.law.proofs.Shown.{alone_counts, few_symbols}
use Rattle.law.proofs.Stands.{call_promised}
use Rattle.trial.specs.declared.fault.TrialFault.{TrialFault}
use Rattle.trial.specs.declared.fault.TrialFault.TheVariants.{NotBlank, NoRule, WidthsDiffer, StillBlank}
use Rattle.trial.specs.Faults.{refused}
use Rattle.trial.specs.Stepping.{StartDue, StartedHeld}
use Rattle.trial.specs.declared.held.Held.{Held}
use Rattle.trial.specs.Views.{shows_of, going, view}

-- 64 symbols alone in their groups are at most 64 groups
near : {width : ℕ} (r : Rule) → Form width r → (v : ℕ) → Stands v r.pattern → v < 64
near r form v (row, m, n) = form.small row m (Variable v) n

pub few_groups : {width : ℕ} (r : Rule) → Form width r → (shown : List ℕ) → ((v : ℕ) → v < 64 → stored shown v ≡ base + v) → group_count r.pattern (stored shown) ≤ 64
few_groups r form shown alone =
    omega (arith, alone_counts (stored shown) r.pattern (λ v stands. alone v (near r form v stands)), few_symbols r.pattern (near r form))

module _ (targets : BookMeaning) (k : ℕ) (d : LoadedRule) (of : DoubledOf targets k d) where
  pub formed : Form d.width (meant d)
  formed = subst (λ w. Form w (meant d)) (sym of.width) of.form

  pub begins : (b : BookMeaning) → targets.width ≡ b.width → (h : Held) → h.target ≡ d → ((v : ℕ) → v < 64 → stored h.shown v ≡ base + v) →
      h.merges ≡ 0 → h.clashed ≡ false → Starts b targets k Blank Done (view (Some h))
  begins b width h is alone none calm =
      let t = of.rule in
      let means : meant h.target ≡ doubled t = ap (λ (l : LoadedRule). meant l) is ∙ of.is in
      let wide : h.target.width ≡ targets.width = ap (λ (l : LoadedRule). l.width) is ∙ of.width in
      let rows : (meant h.target).pattern ≡ doubled_rows t = ap (λ (r : Rule). r.pattern) means in
      let pairs : (meant h.target).pairs ≡ doubled_pairs t = ap (λ (r : Rule). r.pairs) means in
      let seen : going h ≡ fresh targets.width t (shows_of h) = cc in
      subst (λ y. Starts b targets k Blank Done (Going y)) (sym seen) (begun of.there width (subst (λ (p : Pattern). Alone p (shows_of h)) rows (λ v stands. alone v (near (meant h.target) (subst (λ (l : LoadedRule). Form l.width (meant l)) (sym is) formed) v stands))))

-- each refusal of a start leaves the trial as it was
pub start_refused : (b targets : BookMeaning) (k : ℕ) (o : Option Held) (e : TrialFault) → StartDue b targets k o (Err e) → Starts b targets k (view o) (refused e) (view o)
start_refused b targets k None NotBlank due = absurd (false≢true due)
start_refused b targets k (Some h) NotBlank due = not_blank
start_refused b targets k o (NoRule j) (is, past, same) =
    subst (λ (z : Option Held). Starts b targets k (view z) (Refused 8 j) (view z)) (sym is)
    (subst (λ (i : ℕ). Starts b targets k Blank (Refused 8 i) Blank) (sym same) (no_rule past))
start_refused b targets k o WidthsDiffer (is, within, d) =
    subst (λ (z : Option Held). Starts b targets k (view z) (Refused 9 0) (view z)) (sym is) (targets_width within d)
start_refused b targets k o StillBlank due = absurd due

-- and keeps the promise
module _ (b : BookMeaning) (fits : WellFormedBook b) (targets : BookMeaning) (targets_fit : WellFormedBook targets) (k : ℕ) (o : Option Held) where
  pub refused_held : (e : TrialFault) → StartDue b targets k o (Err e) → StartedHeld b targets k o (Err e)
  refused_held e due =
      let step = start_refused b targets k o e due in
      (step, call_promised b fits (Start targets k) targets_fit (view o) (refused e) (view o) step)

  pub started_held : o ≡ None → targets.width ≡ b.width → (d : LoadedRule) → DoubledOf targets k d → (h : Held) → h.target ≡ d →
      ((v : ℕ) → v < 64 → stored h.shown v ≡ base + v) → h.merges ≡ 0 → h.clashed ≡ false → StartedHeld b targets k o (Ok h)
  started_held blank width d of h is alone none calm =
      let P : Option Held → Type 0 = λ z. Starts b targets k (view z) Done (view (Some h)) in
      let step = subst P (sym blank) (begins targets k d of b width h is alone none calm) in
      (step, call_promised b fits (Start targets k) targets_fit (view o) Done (view (Some h)) step)
