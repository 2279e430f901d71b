-- What an advance and a finish leave, as the law sees it.
use Rattle.std.proofs.Common.{◌≡◌, ℕ, ◌<◌, ◌≤◌, Bool, true, false, List, Some, Ok, Err, Option, sym, refl, ◌∙◌, subst, inl, inr, arith}
use Rattle.std.proofs.lemmas.Bool.{false≢true}
use Rattle.rules.specs.Rules.{Rule}
use Rattle.rules.specs.Books.{BookMeaning, WellFormedBook}
use Rattle.law.specs.declared.outcome.Stop.{Stop}
use Rattle.law.specs.declared.outcome.Stop.TheVariants.{Spent, Rest, Clash}
use Rattle.law.specs.declared.outcome.Verdict.{Verdict}
use Rattle.law.specs.declared.outcome.Verdict.TheVariants.{Void, Follows, Fails}
use Rattle.law.specs.Runs.{Merges}
use Rattle.law.specs.Calls.{Started, View, Blank, Going, moved, Advance, Made, Refused, Advances, still_blank, advance_width, stopped, spent, rests, clashes, Finishes, never_begun, finish_width}
use Rattle.law.proofs.Stands.{call_promised, finish_promised, finish_clashed, finish_reached, finish_apart}
use Rattle.trial.specs.declared.fault.TrialFault.{TrialFault}
use Rattle.trial.specs.declared.fault.TrialFault.TheVariants.{NotBlank, NoRule, WidthsDiffer, StillBlank}
use Rattle.trial.specs.Faults.{refused}
use Rattle.trial.specs.Stepping.{AdvanceDue, AdvancedHeld, FinishedHeld}
use Rattle.trial.specs.Tells.{told}
use Rattle.trial.specs.declared.finished.Finished.{Finished}
use Rattle.trial.specs.declared.merging.Ran.{Ran}
use Rattle.trial.specs.declared.held.Held.{Held}
use Rattle.trial.specs.Views.{rows_of, shows_of, going, view}
use Rattle.trial.specs.Merging.{MergedOn, Stopped}
use Rattle.trial.specs.Judging.{Judged}

-- each refusal of an advance leaves the trial as it was
pub advance_refused : (b : BookMeaning) (n : ℕ) (o : Option Held) (e : TrialFault) → AdvanceDue b o (Err e) → Advances b n (view o) (refused e) (view o)
advance_refused b n o NotBlank due = absurd due
advance_refused b n o (NoRule j) due = absurd due
advance_refused b n o WidthsDiffer (h, is, d) = subst (λ (z : Option Held). Advances b n (view z) (Refused 9 0) (view z)) (sym is) (advance_width d)
advance_refused b n o StillBlank is = subst (λ (z : Option Held). Advances b n (view z) (Refused 11 0) (view z)) (sym is) still_blank

moved-on : (rules : List Rule) (h h' : Held) (m : ℕ) (c : Bool) → MergedOn rules h h' m c → moved (going h) (shows_of h') m c ≡ going h'
moved-on rules h h' m c on =
    let target = on.target in
    let count = on.count in
    let clash = on.clash in
    cc

module _ (b : BookMeaning) (n : ℕ) (h : Held) (w : h.target.width ≡ b.width) where
  pub advance_clashed : h.clashed ≡ true → Advances b n (view (Some h)) (Made 0 Clash) (view (Some h))
  advance_clashed c = stopped w c

  pub advance_ran : h.clashed ≡ false → (h' : Held) (m : ℕ) (stop : Stop) → Stopped b.rules n h h' m stop →
      Advances b n (view (Some h)) (Made m stop) (view (Some h'))
  advance_ran calm h' m Spent (on, all) =
      let P : Started → Type 0 = λ y. Advances b n (Going (going h)) (Made m Spent) (Going y) in
      subst P (moved-on b.rules h h' m false on)
      (subst (λ (k : ℕ). Advances b n (Going (going h)) (Made k Spent) (Going (moved (going h) (shows_of h') k false))) (sym all)
      (spent w calm (subst (λ (k : ℕ). Merges b.rules (rows_of h) (shows_of h) (shows_of h') k) all on.merges)))
  advance_ran calm h' m Rest (on, less, rest) =
      let P : Started → Type 0 = λ y. Advances b n (Going (going h)) (Made m Rest) (Going y) in
      subst P (moved-on b.rules h h' m false on) (rests w calm on.merges less rest)
  advance_ran calm h' m Clash (on, less, clash) =
      let P : Started → Type 0 = λ y. Advances b n (Going (going h)) (Made m Clash) (Going y) in
      subst P (moved-on b.rules h h' m true on) (clashes w calm on.merges less clash)

-- where an advance is refused, a finish is void
pub finish_void : (b : BookMeaning) (n i j : ℕ) (x y : View) → Advances b n x (Refused i j) y → Finishes b x (record { verdict = Void; left = x })
finish_void b n i j Blank y still_blank = never_begun
finish_void b n i j (Going x) y (advance_width d) = finish_width d

-- what an advance that was not refused leaves
spent-all : (b : BookMeaning) (n m : ℕ) (x : View) (y : Started) → Advances b n x (Made m Spent) (Going y) → n ≤ y.merges
spent-all b n m x y (spent w c merges) = omega arith

rests-open : (b : BookMeaning) (n m : ℕ) (x : View) (y : Started) → Advances b n x (Made m Rest) (Going y) → y.clashed ≡ false
rests-open b n m x y (rests w c merges less rest) = refl

clash-kept : (b : BookMeaning) (n m : ℕ) (x : View) (y : Started) → Advances b n x (Made m Clash) (Going y) → y.clashed ≡ true
clash-kept b n m x y (stopped w c) = c
clash-kept b n m x y (clashes w c merges less clash) = refl

-- an advance by more merges than are left has come to its end
pub finish_ran : (b : BookMeaning) (n m : ℕ) (x : View) (h : Held) (stop : Stop) (v : Verdict) → Advances b n x (Made m stop) (view (Some h)) →
    h.merges < n → Judged h v → Finishes b x (record { verdict = v; left = view (Some h) })
finish_ran b n m x h Spent v a few judged = let all = spent-all b n m x (going h) a in absurd (omega arith)
finish_ran b n m x h Rest Void a few judged = absurd judged
finish_ran b n m x h Rest Follows a few (inl c) = absurd (false≢true (sym (rests-open b n m x (going h) a) ∙ c))
finish_ran b n m x h Rest Follows a few (inr all) = finish_reached b n m a all
finish_ran b n m x h Rest Fails a few (calm, apart) = finish_apart b n m a apart
finish_ran b n m x h Clash Void a few judged = absurd judged
finish_ran b n m x h Clash Follows a few judged = finish_clashed b n m a
finish_ran b n m x h Clash Fails a few (calm, apart) = absurd (false≢true (sym calm ∙ clash-kept b n m x (going h) a))

-- each keeps the promise
module _ (b : BookMeaning) (fits : WellFormedBook b) (n : ℕ) (o : Option Held) where
  pub refused_held : (e : TrialFault) → AdvanceDue b o (Err e) → AdvancedHeld b n o (Err e)
  refused_held e due =
      let step = advance_refused b n o e due in
      (step, call_promised b fits (Advance n) tt (view o) (refused e) (view o) step)

  pub advanced_held : (h : Held) → o ≡ Some h → (r : Ran) → Advances b n (view (Some h)) (Made r.made r.stop) (view (Some r.held)) → AdvancedHeld b n o (Ok r)
  advanced_held h is r going =
      let P : Option Held → Type 0 = λ z. Advances b n (view z) (Made r.made r.stop) (view (Some r.held)) in
      let step = subst P (sym is) going in
      (step, call_promised b fits (Advance n) tt (view o) (Made r.made r.stop) (view (Some r.held)) step)

  pub finished_held : (f : Finished) → Finishes b (view o) (told f) → FinishedHeld b o f
  finished_held f finish = (finish, finish_promised b fits (view o) (told f) finish)
