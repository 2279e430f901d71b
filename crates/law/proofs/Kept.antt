-- Every list of calls keeps the promise.
use Rattle.std.proofs.Common.{◌≡◌, ℕ, ◌<◌, ◌≤◌, Bool, true, false, ◌⊎◌, ◌↔◌, List, [], ◌∷◌, Some, None, Option, sym, refl, ◌∙◌, subst, inl, inr, arith}
use mathlib.Core.List.Memᴰ
use Rattle.std.proofs.lemmas.Bool.{cases_lt}
use Rattle.rules.specs.declared.term.Term.{Term}
use Rattle.rules.specs.Rules.{◌∈◌, Relation, Pattern, Rule}
use Rattle.rules.specs.Books.{BookMeaning, base, Stands, WellFormedBook}
use Rattle.rules.specs.Doubled.{doubled_rows}
use Rattle.law.specs.declared.outcome.Verdict.{Verdict}
use Rattle.law.specs.declared.outcome.Verdict.TheVariants.{Void, Follows, Fails}
use Rattle.law.specs.Implied.{Implied, Counterexample}
use Rattle.law.specs.Groups.{Entry, Forced, State, current, ReadAlike}
use Rattle.law.specs.Runs.{AtRest, Merges, Reached, Ended, clash_met, pairs_met, pairs_apart}
use Rattle.law.specs.Calls.{Started, View, Blank, Going, moved, Finished, Finishes, never_begun, finish_width, clashed_before, ended, rows_of, finished_rows}
use Rattle.law.specs.Promise.{Turn, Ending, Unfinished, FinishedBy, last_view, AnsweredLast, seen, target_of, OnceFinished, Promise, GivenLast, History}
use Rattle.law.specs.Laws.{PromiseKept, ShownSo, by_constant, by_least, GroupsShow}
use Rattle.law.proofs.Sound.{Impossible, Sound, forced, clash-impossible}
use Rattle.law.proofs.Shown.{Shape}
use Rattle.law.proofs.Lawful.{merges_lawful}
use Rattle.law.proofs.Verdicts.{no_counterexample, reached_implied, impossible_implied, rest_breaks, rest_alike}
use Rattle.law.proofs.Histories.{true_false, Good, Sane, good_fit, good_moved, history_good, history_sane}

-- what a finished trial tells of its target
pub record Told (b : BookMeaning) (t : Rule) (f : Finished) : Type 0 where
  pub not_void : f.verdict ≡ Void → ⊥
  pub follows : (f.verdict ≡ Follows) ↔ Implied b t
  pub fails : (f.verdict ≡ Fails) ↔ ((rel : Relation) × Counterexample b t rel)
  pub rows : f.verdict ≡ Fails → Counterexample b t (finished_rows f)
  pub alike : f.verdict ≡ Fails → (e e' : Term) → Entry (doubled_rows t) e → Entry (doubled_rows t) e' →
      ReadAlike (doubled_rows t) (finished_rows f) e e' ↔ Forced b (doubled_rows t) e e'

follows_void : Follows ≡ Void → ⊥
follows_void e = let z : ◌≡◌ {A = ℕ} 0 1 = cc in omega arith

follows_fails : Follows ≡ Fails → ⊥
follows_fails e = let z : ◌≡◌ {A = ℕ} 0 1 = cc in omega arith

fails_void : Fails ≡ Void → ⊥
fails_void e = let z : ◌≡◌ {A = ℕ} 0 1 = cc in omega arith

told-follows : (b : BookMeaning) (t : Rule) (x : View) → Implied b t → Told b t (record { verdict = Follows; left = x })
told-follows b t x implied =
    record {
      not_void = follows_void;
      follows = (λ e. implied, λ i. refl);
      fails = (λ e. absurd (follows_fails e), λ c. absurd (no_counterexample b t c.0 implied c.1));
      rows = λ e. absurd (follows_fails e);
      alike = λ e. absurd (follows_fails e);
    }

told-fails : (b : BookMeaning) (t : Rule) (x : View) → Counterexample b t (rows_of x) →
    ((e e' : Term) → Entry (doubled_rows t) e → Entry (doubled_rows t) e' → ReadAlike (doubled_rows t) (rows_of x) e e' ↔ Forced b (doubled_rows t) e e') →
    Told b t (record { verdict = Fails; left = x })
told-fails b t x broken alike =
    record {
      not_void = fails_void;
      follows = (λ e. absurd (follows_fails (sym e)), λ i. absurd (no_counterexample b t (rows_of x) i broken));
      fails = (λ e. (rows_of x, broken), λ c. refl);
      rows = λ e. broken;
      alike = λ e. alike;
    }

-- what is known at the end: a blank trial is void, and a started one has clashed or rests, and tells of its target
pub data KnownEnd (b : BookMeaning) (o : Option Rule) : Finished → Type 0 where
  at_blank : o ≡ None → KnownEnd b o (record { verdict = Void; left = Blank })
  at_told : {x : Started} {v : Verdict} → (g : Good b o x) → (x.clashed ≡ false → AtRest b.rules x.rows x.shows) → Told b g.target (record { verdict = v; left = Going x }) →
      KnownEnd b o (record { verdict = v; left = Going x })

module _ (b : BookMeaning) (book_fits : WellFormedBook b) (o : Option Rule) where
  clash_told : (x : Started) (g : Good b o x) → x.clashed ≡ true → Told b g.target (record { verdict = Follows; left = Going x })
  clash_told x g e =
      told-follows b g.target (Going x)
      (impossible_implied b book_fits g.target g.fits (subst (λ (p : Pattern). Impossible b p) g.rows_are (g.clash e)))

  sound_of : (x : Started) (g : Good b o x) → Sound b (doubled_rows g.target) x.shows
  sound_of x g = subst (λ (p : Pattern). Sound b p x.shows) g.rows_are g.lawful.sound

  reached_told : (x : Started) (g : Good b o x) → Reached x.pairs x.shows → Told b g.target (record { verdict = Follows; left = Going x })
  reached_told x g reached =
      told-follows b g.target (Going x)
      (reached_implied b book_fits g.target g.fits x.shows (sound_of x g)
      (subst (λ (ps : List (Term × Term)). Reached ps x.shows) g.pairs_are reached))

  failed_told : (x : Started) (g : Good b o x) → AtRest b.rules x.rows x.shows → (Reached x.pairs x.shows → ⊥) →
      Told b g.target (record { verdict = Fails; left = Going x })
  failed_told x g rest unreached =
      let t = g.target in
      let rest' = subst (λ (p : Pattern). AtRest b.rules p x.shows) g.rows_are rest in
      told-fails b t (Going x)
      (subst (λ (p : Pattern). Counterexample b t (current p x.shows)) (sym g.rows_are)
      (rest_breaks b book_fits t g.fits x.shows rest'
      (λ all. unreached (subst (λ (ps : List (Term × Term)). Reached ps x.shows) (sym g.pairs_are) all))))
      (λ e e' k k'.
      subst (λ (p : Pattern). ReadAlike (doubled_rows t) (current p x.shows) e e' ↔ Forced b (doubled_rows t) e e') (sym g.rows_are)
      (rest_alike b book_fits t g.fits x.shows (sound_of x g) rest' e e' k k'))

  ended_end : (x : Started) → Good b o x → (s : State) (m : ℕ) → Merges b.rules x.rows x.shows s m → {c : Bool} {v : Verdict} →
      Ended b.rules x.rows x.pairs s c v → KnownEnd b o (record { verdict = v; left = Going (moved x s m c) })
  ended_end x sane s m merges (clash_met clash) =
      let fit = good_fit b book_fits o x sane in
      let after = merges_lawful b x.rows fit x.shows x.merges sane.lawful merges in
      let g = good_moved b book_fits o x sane s m merges true (λ e. clash-impossible b x.rows fit s after.sound clash) in
      at_told g (λ e. absurd (true_false (sym e))) (clash_told (moved x s m true) g refl)
  ended_end x sane s m merges (pairs_met rest reached) =
      let g = good_moved b book_fits o x sane s m merges false (λ e. absurd (true_false e)) in
      at_told g (λ e. rest) (reached_told (moved x s m false) g reached)
  ended_end x sane s m merges (pairs_apart rest apart) =
      let g = good_moved b book_fits o x sane s m merges false (λ e. absurd (true_false e)) in
      at_told g (λ e. rest) (failed_told (moved x s m false) g rest apart)

  pub known_end : {x : View} {f : Finished} → Finishes b x f → Sane b o x → KnownEnd b o f
  known_end never_begun sane = at_blank sane
  known_end (finish_width d) sane = absurd (d sane.width_is)
  known_end (clashed_before {x = x} w c) sane = at_told sane (λ e. absurd (true_false (sym e ∙ c))) (clash_told x sane c)
  known_end (ended {x = x} {s = s} {m = m} w c merges end) sane = ended_end x sane s m merges end

  -- the view that finish left is good too
  left_good : {f : Finished} → KnownEnd b o f → (z : Started) → Going z ≡ f.left → Good b o z
  left_good (at_blank e) z k = let n : ◌≡◌ {A = ℕ} 0 1 = cc in absurd (omega arith)
  left_good (at_told {x = x} g rest told) z k = let same : x ≡ z = cc in subst (Good b o) same g

  void_end : {f : Finished} → KnownEnd b o f → (f.verdict ≡ Void) ↔ (o ≡ None)
  void_end (at_blank e) = (λ k. e, λ k. refl)
  void_end (at_told g rest told) = (λ k. absurd (told.not_void k), λ k. absurd (some_none g.target (sym g.is_target ∙ k)))
    where
      some_none : (t : Rule) → Some t ≡ None → ⊥
      some_none t e = let z : ◌≡◌ {A = ℕ} 0 1 = cc in omega arith

  pub told_end : {f : Finished} → KnownEnd b o f → (t : Rule) → o ≡ Some t → Told b t f
  told_end (at_blank e) t k = let z : ◌≡◌ {A = ℕ} 0 1 = cc in absurd (omega arith)
  told_end (at_told {x = x} {v = v} g rest told) t k =
      subst (λ (r : Rule). Told b r (record { verdict = v; left = Going x })) (one g.target t (sym g.is_target ∙ k)) told
    where
      one : (r r' : Rule) → Some r ≡ Some r' → r ≡ r'
      one r r' e = cc

-- the fields that speak of each view follow from what is known of each
module _ (b : BookMeaning) (book_fits : WellFormedBook b) (turns : List Turn) (views : List View) (h : History b turns views) where
  promised : (ending : Ending) → AnsweredLast (last_view Blank views) ending →
      ((z : Started) → Going z ∈ seen views ending → Good b (target_of turns) z) →
      OnceFinished ending (λ f. KnownEnd b (target_of turns) f) → Promise b turns views ending
  promised Unfinished last good end =
      record {
        answered = (h.answered, tt);
        merged_only_if_forced = λ x m. let g = good x m in forced b x.rows (good_fit b book_fits (target_of turns) x g) x.shows g.lawful.sound;
        counted = λ x m. (good x m).lawful.counted;
        target = λ x m. let g = good x m in (g.target, g.is_target, g.width_is, g.rows_are, g.pairs_are);
        void_only_if_never_started = tt;
        follows_exactly_if_implied = tt;
        fails_exactly_if_broken = tt;
        rows_keep_and_break = tt;
        alike_exactly_if_forced = tt;
      }
  promised (FinishedBy c f) last good end =
      let told = told_end b book_fits (target_of turns) end in
      record {
        answered = (h.answered, last);
        merged_only_if_forced = λ x m. let g = good x m in forced b x.rows (good_fit b book_fits (target_of turns) x g) x.shows g.lawful.sound;
        counted = λ x m. (good x m).lawful.counted;
        target = λ x m. let g = good x m in (g.target, g.is_target, g.width_is, g.rows_are, g.pairs_are);
        void_only_if_never_started = void_end b book_fits (target_of turns) end;
        follows_exactly_if_implied = λ t e. (told t e).follows;
        fails_exactly_if_broken = λ t e. (told t e).fails;
        rows_keep_and_break = λ t e. (told t e).rows;
        alike_exactly_if_forced = λ t e. (told t e).alike;
      }

  end_known : (c : BookMeaning) (f : Finished) → c ≡ b → Finishes c (last_view Blank views) f → KnownEnd b (target_of turns) f
  end_known c f given last =
      known_end b book_fits (target_of turns) (subst (λ (d : BookMeaning). Finishes d (last_view Blank views) f) given last)
      (history_sane b book_fits turns views h)

  -- what is known of every view, the one that finish left too
  pub seen_good : (ending : Ending) → GivenLast b ending → AnsweredLast (last_view Blank views) ending →
      (z : Started) → Going z ∈ seen views ending → Good b (target_of turns) z
  seen_good Unfinished given last z m = history_good b book_fits turns views h z m
  seen_good (FinishedBy c f) given last z m = go (Memᴰ.append_cases views m)
    where
      go : (Going z ∈ views) ⊎ (Going z ∈ (f.left ∷ [])) → Good b (target_of turns) z
      go (inl m) = history_good b book_fits turns views h z m
      go (inr m) =
          elim (Memᴰ.cases_cons m) [
            | inl e ↦ left_good b book_fits (target_of turns) (end_known c f given last) z e
            | inr k ↦ elim k [ ]
          ]

  kept_to : (ending : Ending) → GivenLast b ending → AnsweredLast (last_view Blank views) ending → Promise b turns views ending
  kept_to Unfinished given last = promised Unfinished last (seen_good Unfinished given last) tt
  kept_to (FinishedBy c f) given last = promised (FinishedBy c f) last (seen_good (FinishedBy c f) given last) (end_known c f given last)

pub kept : PromiseKept
kept b book_fits turns views ending h = kept_to b book_fits turns views h ending

-- how groups show
show_so : (start : Pattern) (s : State) → Shape start s → (v : ℕ) → Stands v start → ShownSo start s v
show_so start s shape v st = go (cases_lt (s v) base)
  where
    go : (s v < base) ⊎ (base ≤ s v) → ShownSo start s v
    go (inl low) = by_constant low
    go (inr high) =
        let k = shape v st high in
        by_least k.0 k.2 (k.1.itself ∙ sym k.1.shown) k.1.shown
        (λ w sw one.
        let shown = k.1.shown in
        let j = shape w sw (omega arith) in
        let other = j.1.shown in
        let least = j.1.least in
        omega arith)

pub shows : GroupsShow
shows b book_fits turns views ending h given last x m =
    show_so x.rows x.shows (seen_good b book_fits turns views h ending given last x m).lawful.shape
