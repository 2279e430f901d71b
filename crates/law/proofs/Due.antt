-- The answers of advances, where a run comes to rest.
use Rattle.std.proofs.Common.{◌≡◌, ℕ, ◌+◌, ◌-◌, ◌<◌, ◌≤◌, Bool, false, leb, List, Some, Option, sym, refl, ap, ◌∙◌, subst, arith}
use Rattle.std.proofs.lemmas.Bool.{le-leb, lt-leb, cond-true, cond-false}
use Rattle.rules.specs.declared.term.Term.{Term}
use Rattle.rules.specs.Rules.{Pattern, Rule}
use Rattle.rules.specs.Books.{BookMeaning, WellFormed, WellFormedBook}
use Rattle.rules.specs.Doubled.{doubled_rows, doubled_pairs}
use Rattle.law.specs.declared.outcome.Stop.TheVariants.{Spent, Rest}
use Rattle.law.specs.declared.outcome.Verdict.{Verdict}
use Rattle.law.specs.Groups.{State}
use Rattle.law.specs.Runs.{Clashing, AtRest, Merges, Ended, clash_met, pairs_met, pairs_apart}
use Rattle.law.specs.Calls.{Started, View, Answer, Made, Advances, still_blank, advance_width, stopped, spent, rests, clashes}
use Rattle.law.specs.Promise.{target_of}
use Rattle.law.specs.Laws.{due, merges_of, AnswersDue}
use Rattle.law.proofs.Starting.{Fit, starts_fit}
use Rattle.law.proofs.Sound.{Impossible, clash-impossible}
use Rattle.law.proofs.Lawful.{Lawful, merges_lawful, run_lawful}
use Rattle.law.proofs.Histories.{true_false, Good, Sane, history_sane}
use Rattle.law.proofs.Ends.{ends_from}
use Rattle.law.proofs.SameEnd.{some_one, none_some, same_shown, same_merges, never_both}

due-spent : (left n : ℕ) → n ≤ left → Made n Spent ≡ due left n
due-spent left n l = sym (cond-true (leb n left) (Made n Spent) (Made left Rest) (le-leb n left l))

due-rest : (left m n : ℕ) → m ≡ left → m < n → Made m Rest ≡ due left n
due-rest left m n e l =
    ap (λ (k : ℕ). Made k Rest) e ∙ sym (cond-false (leb n left) (Made n Spent) (Made left Rest) (lt-leb n left (omega arith)))

pub ended_rests : (b : BookMeaning) (t : Rule) (s : State) {c : Bool} {v : Verdict} → Ended b.rules (doubled_rows t) (doubled_pairs t) s c v →
    c ≡ false → AtRest b.rules (doubled_rows t) s
ended_rests b t s (clash_met k) e = absurd (true_false (sym e))
ended_rests b t s (pairs_met rest k) e = rest
ended_rests b t s (pairs_apart rest k) e = rest

-- a lawful state at rest after so many merges
module _ (b : BookMeaning) (start : Pattern) (fit : Fit b start) (s₀ : State) (all : ℕ) (lawful₀ : Lawful b start s₀ all) (rest₀ : AtRest b.rules start s₀) where
  never_clashes : (s : State) (n : ℕ) → Lawful b start s n → Clashing b.rules start s → ⊥
  never_clashes s n l c = never_both b start fit (clash-impossible b start fit s l.sound c) s₀ rest₀

  rests_after : (s : State) (n : ℕ) → Lawful b start s n → AtRest b.rules start s → n ≡ all
  rests_after s n l rest = same_merges b start fit s s₀ n all l lawful₀ (same_shown b start fit s s₀ n all l lawful₀ rest rest₀)

  ends_after : (s : State) (n m : ℕ) {s' : State} → Lawful b start s n → Merges b.rules start s s' m → (pairs : List (Term × Term)) → {c : Bool} {v : Verdict} →
      Ended b.rules start pairs s' c v → n + m ≡ all
  ends_after s n m {s'} l merges pairs (clash_met k) = absurd (never_clashes s' (n + m) (merges_lawful b start fit s n l merges) k)
  ends_after s n m {s'} l merges pairs (pairs_met rest k) = rests_after s' (n + m) (merges_lawful b start fit s n l merges) rest
  ends_after s n m {s'} l merges pairs (pairs_apart rest k) = rests_after s' (n + m) (merges_lawful b start fit s n l merges) rest

  at_most : (pairs : List (Term × Term)) (s : State) (n : ℕ) → Lawful b start s n → n ≤ all
  at_most pairs s n l =
      let e = ends_from b start fit pairs s n l in
      let k = ends_after s n e.count l e.merges pairs e.ends in
      omega arith

module _ (b : BookMeaning) (fits : WellFormedBook b) (t : Rule) (target_fits : WellFormed b.width t) (s₀ : State) (all : ℕ)
    (lawful₀ : Lawful b (doubled_rows t) s₀ all) (rest₀ : AtRest b.rules (doubled_rows t) s₀) where
  fit : Fit b (doubled_rows t)
  fit = starts_fit b fits t target_fits

  rows-of_target : (o : Option Rule) → o ≡ Some t → (x : Started) (g : Good b o x) → x.rows ≡ doubled_rows t
  rows-of_target o e x g = g.rows_are ∙ ap doubled_rows (some_one g.target t (sym g.is_target ∙ e))

  -- what a merging trial of the target has come to, on the target's own rows
  after : (o : Option Rule) → o ≡ Some t → (x : Started) → Good b o x → (s : State) (m : ℕ) → Merges b.rules x.rows x.shows s m →
      Lawful b (doubled_rows t) s (x.merges + m)
  after o e x g s m merges =
      let is = rows-of_target o e x g in
      merges_lawful b (doubled_rows t) fit x.shows x.merges
      (subst (λ (p : Pattern). Lawful b p x.shows x.merges) is g.lawful)
      (subst (λ (p : Pattern). Merges b.rules p x.shows s m) is merges)

  -- the answer that is due, and how many merges are left after it
  pub advance_due : (o : Option Rule) → o ≡ Some t → (n : ℕ) {x y : View} {a : Answer} → Advances b n x a y → Sane b o x →
      (a ≡ due (all - merges_of x) n) × (all - merges_of y ≡ all - merges_of x - n)
  advance_due o e n still_blank sane = absurd (none_some t (sym sane ∙ e))
  advance_due o e n (advance_width d) sane = absurd (d sane.width_is)
  advance_due o e n (stopped {x = x} w c) sane =
      absurd (never_both b (doubled_rows t) fit (subst (λ (p : Pattern). Impossible b p) (rows-of_target o e x sane) (sane.clash c)) s₀ rest₀)
  advance_due o e n (spent {x = x} {s = s} w c merges) sane =
      let most = at_most b (doubled_rows t) fit s₀ all lawful₀ rest₀ (doubled_pairs t) s (x.merges + n) (after o e x sane s n merges) in
      (due-spent (all - x.merges) n (omega arith), omega arith)
  advance_due o e n (rests {x = x} {s = s} {m = m} w c merges l rest) sane =
      let k =
      rests_after b (doubled_rows t) fit s₀ all lawful₀ rest₀ s (x.merges + m) (after o e x sane s m merges)
      (subst (λ (p : Pattern). AtRest b.rules p s) (rows-of_target o e x sane) rest)
      in
      (due-rest (all - x.merges) m n (omega arith) l, omega arith)
  advance_due o e n (clashes {x = x} {s = s} {m = m} w c merges l clash) sane =
      absurd (never_clashes b (doubled_rows t) fit s₀ all lawful₀ rest₀ s (x.merges + m) (after o e x sane s m merges)
      (subst (λ (p : Pattern). Clashing b.rules p s) (rows-of_target o e x sane) clash))

pub answers-due : AnswersDue
answers-due b fits t target_fits s all v r e turns views h named n a y step =
    (advance_due b fits t target_fits s all (run_lawful b (doubled_rows t) (starts_fit b fits t target_fits) s all r) (ended_rests b t s e refl)
    (target_of turns) named n step (history_sane b fits turns views h)).0
