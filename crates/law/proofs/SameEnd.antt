-- Two finished trials of one target end alike.
use Rattle.std.proofs.Common.{◌≡◌, ℕ, ◌<◌, ◌≤◌, true, false, ◌⊎◌, List, map, Some, None, Option, sym, refl, ap, ◌∙◌, subst, inl, inr, arith}
use Rattle.std.proofs.lemmas.Bool.{cases_lt, cases_Bool}
use Rattle.rules.specs.declared.term.Term.{Term}
use Rattle.rules.specs.declared.term.Term.TheVariants.{Constant, Variable}
use Rattle.rules.specs.Rules.{Pattern, Rule, at}
use Rattle.rules.specs.Books.{BookMeaning, base, Stands, WellFormedBook}
use Rattle.rules.specs.Doubled.{doubled_rows}
use Rattle.rules.proofs.Members.{map_on}
use Rattle.law.specs.declared.outcome.Verdict.{Verdict}
use Rattle.law.specs.declared.outcome.Verdict.TheVariants.{Void, Follows, Fails}
use Rattle.law.specs.Groups.{Entry, State, OneGroup, current, symbols, different, unknowns, group_count}
use Rattle.law.specs.Runs.{AtRest}
use Rattle.law.specs.Calls.{Started, Going, Finished, rows_told}
use Rattle.law.specs.Promise.{target_of}
use Rattle.law.specs.Laws.{SameLeft, SameEnd, SameEndWhicheverSpots}
use Rattle.law.proofs.Starting.{Fit}
use Rattle.law.proofs.Sound.{Impossible, forced, placed_here, rest_model, rest_exact}
use Rattle.law.proofs.Shown.{Least, symbol-stands}
use Rattle.law.proofs.Lawful.{Lawful}
use Rattle.law.proofs.Verdicts.{impossible_implied, no_counterexample}
use Rattle.law.proofs.Histories.{Good, good_fit, history_sane}
use Rattle.law.proofs.Kept.{Told, KnownEnd, at_blank, at_told, known_end}

-- two lawful states at rest
module _ (b : BookMeaning) (start : Pattern) (fit : Fit b start) where
  transfer : (s s' : State) (n : ℕ) → Lawful b start s n → AtRest b.rules start s' →
      (e e' : Term) → Entry start e → Entry start e' → OneGroup s e e' → OneGroup s' e e'
  transfer s s' n l rest e e' k k' one = rest_exact b start fit s' rest e e' (forced b start fit s l.sound e e' k k' one)

  -- the least symbol of v's group in s is at most that in s'
  least-most : (s s' : State) (n n' : ℕ) → Lawful b start s n → Lawful b start s' n' → AtRest b.rules start s →
      (v u u' : ℕ) → Stands v start → Stands u' start → Least s v u → Least s' v u' → u ≤ u'
  least-most s s' n n' l l' rest v u u' st st' k k' =
      let same : s v ≡ s u' = transfer s' s n' l' rest (Variable v) (Variable u') st st' (k'.shown ∙ sym k'.itself) in
      let shown = k.shown in
      let w = l.shape u' st' (omega arith) in
      let other-shown = w.1.shown in
      let least = w.1.least in
      omega arith

  pub same_shown : (s s' : State) (n n' : ℕ) → Lawful b start s n → Lawful b start s' n' → AtRest b.rules start s → AtRest b.rules start s' →
      (v : ℕ) → Stands v start → s v ≡ s' v
  same_shown s s' n n' l l' rest rest' v st = go (cases_lt (s v) base) (cases_lt (s' v) base)
    where
      go : (s v < base) ⊎ (base ≤ s v) → (s' v < base) ⊎ (base ≤ s' v) → s v ≡ s' v
      go (inl low) k' = sym (transfer s s' n l rest' (Variable v) (Constant (s v)) st low refl)
      go (inr k) (inl low) = transfer s' s n' l' rest (Variable v) (Constant (s' v)) st low refl
      go (inr k) (inr k') =
          let w = l.shape v st k in
          let w' = l'.shape v st k' in
          let shown = w.1.shown in
          let shown' = w'.1.shown in
          let up = least-most s s' n n' l l' rest v w.0 w'.0 st w'.2 w.1 w'.1 in
          let down = least-most s' s n' n l' l rest' v w'.0 w.0 st w.2 w'.1 w.1 in
          omega arith

  pub same_merges : (s s' : State) (n n' : ℕ) → Lawful b start s n → Lawful b start s' n' → ((v : ℕ) → Stands v start → s v ≡ s' v) → n ≡ n'
  same_merges s s' n n' l l' same =
      let g : group_count start s ≡ group_count start s' =
      ap (λ (ns : List ℕ). different (unknowns ns)) (map_on s s' (symbols start) (λ v m. same v (symbol-stands start v m)))
      in
      let c = l.counted in
      let c' = l'.counted in
      omega arith

  same_at : (s s' : State) → ((v : ℕ) → Stands v start → s v ≡ s' v) → (e : Term) → Entry start e → at s e ≡ at s' e
  same_at s s' same (Constant c) k = refl
  same_at s s' same (Variable v) k = same v k

  pub same_rows : (s s' : State) → ((v : ℕ) → Stands v start → s v ≡ s' v) → current start s ≡ current start s'
  same_rows s s' same =
      map_on (map (at s)) (map (at s')) start (λ row n. map_on (at s) (at s') row (λ e m. same_at s s' same e (fit.held.entries row n e m)))

  -- where one state shows that no placing exists, no other comes to rest
  pub never_both : Impossible b start → (s : State) → AtRest b.rules start s → ⊥
  never_both none s rest = none (current start s) (rest_model b start fit s rest) s (placed_here b start fit s)

one_verdict : (b : BookMeaning) (t : Rule) (f f' : Finished) → Told b t f → Told b t f' → f.verdict ≡ f'.verdict
one_verdict b t f f' told told' = go f.verdict f'.verdict refl refl
  where
    go : (v v' : Verdict) → f.verdict ≡ v → f'.verdict ≡ v' → f.verdict ≡ f'.verdict
    go Void v' e e' = absurd (told.not_void e)
    go Follows v' e e' = e ∙ sym (told'.follows.1 (told.follows.0 e))
    go Fails Void e e' = absurd (told'.not_void e')
    go Fails Follows e e' = told.follows.1 (told'.follows.0 e') ∙ sym e'
    go Fails Fails e e' = e ∙ sym e'

-- two trials of one target as finish left them
module _ (b : BookMeaning) (book_fits : WellFormedBook b) (o o' : Option Rule) (x x' : Started) (g : Good b o x) (g' : Good b o' x')
    (one : g.target ≡ g'.target) (rest : x.clashed ≡ false → AtRest b.rules x.rows x.shows)
    (rest' : x'.clashed ≡ false → AtRest b.rules x'.rows x'.shows) where
  same_start : x'.rows ≡ x.rows
  same_start = g'.rows_are ∙ sym (ap doubled_rows one) ∙ sym g.rows_are

  fit : Fit b x.rows
  fit = good_fit b book_fits o x g

  lawful' : Lawful b x.rows x'.shows x'.merges
  lawful' = subst (λ (p : Pattern). Lawful b p x'.shows x'.merges) same_start g'.lawful

  resting' : x'.clashed ≡ false → AtRest b.rules x.rows x'.shows
  resting' e = subst (λ (p : Pattern). AtRest b.rules p x'.shows) same_start (rest' e)

  same_clash : x.clashed ≡ x'.clashed
  same_clash = go (cases_Bool x.clashed) (cases_Bool x'.clashed)
    where
      go : (x.clashed ≡ true) ⊎ (x.clashed ≡ false) → (x'.clashed ≡ true) ⊎ (x'.clashed ≡ false) → x.clashed ≡ x'.clashed
      go (inl e) (inl e') = e ∙ sym e'
      go (inl e) (inr e') = absurd (never_both b x.rows fit (g.clash e) x'.shows (resting' e'))
      go (inr e) (inl e') =
          absurd (never_both b x.rows fit (subst (λ (p : Pattern). Impossible b p) same_start (g'.clash e')) x.shows (rest e))
      go (inr e) (inr e') = e ∙ sym e'

  same_groups : x.clashed ≡ false → (v : ℕ) → Stands v x.rows → x.shows v ≡ x'.shows v
  same_groups e = same_shown b x.rows fit x.shows x'.shows x.merges x'.merges g.lawful lawful' (rest e) (resting' (sym same_clash ∙ e))

  same_left : SameLeft x x'
  same_left =
      record {
        clashed = same_clash;
        groups = same_groups;
        merges = λ e. same_merges b x.rows fit x.shows x'.shows x.merges x'.merges g.lawful lawful' (same_groups e);
      }

  left_rows : x.clashed ≡ false → current x.rows x.shows ≡ current x'.rows x'.shows
  left_rows e =
      same_rows b x.rows fit x.shows x'.shows (same_groups e) ∙
      sym (ap (λ (p : Pattern). current p x'.shows) same_start)

  -- the rows told, where the verdict is one
  told-rows : (v v' : Verdict) → v ≡ v' → (v ≡ Fails → x.clashed ≡ false) → rows_told v (Going x) ≡ rows_told v' (Going x')
  told-rows Void v' e quiet = ap (λ (w : Verdict). rows_told w (Going x')) e
  told-rows Follows v' e quiet = ap (λ (w : Verdict). rows_told w (Going x')) e
  told-rows Fails v' e quiet = left_rows (quiet refl) ∙ ap (λ (w : Verdict). rows_told w (Going x')) e

-- what fails has not clashed
fails_quiet : (b : BookMeaning) → WellFormedBook b → (o : Option Rule) (x : Started) (v : Verdict) (g : Good b o x) →
    Told b g.target (record { verdict = v; left = Going x }) → v ≡ Fails → x.clashed ≡ false
fails_quiet b book_fits o x v g told e =
    elim (cases_Bool x.clashed) [
      | inl c ↦
          (let implied =
          impossible_implied b book_fits g.target g.fits (subst (λ (p : Pattern). Impossible b p) g.rows_are (g.clash c))
          in
          absurd (no_counterexample b g.target _ implied (told.rows e)))
      | inr c ↦ c
    ]

pub some_one : (r r' : Rule) → Some r ≡ Some r' → r ≡ r'
some_one r r' e = cc

pub none_some : (r : Rule) → None ≡ Some r → ⊥
none_some r e = let z : ◌≡◌ {A = ℕ} 0 1 = cc in omega arith

going-one : (x y : Started) → Going x ≡ Going y → x ≡ y
going-one x y e = cc

same_ends : (b : BookMeaning) → WellFormedBook b → (o o' : Option Rule) (t : Rule) → o ≡ Some t → o' ≡ Some t → {f f' : Finished} →
    KnownEnd b o f → KnownEnd b o' f' → SameEnd f f'
same_ends b fits o o' t e e' (at_blank k) end' = absurd (none_some t (sym k ∙ e))
same_ends b fits o o' t e e' (at_told g rest told) (at_blank k) = absurd (none_some t (sym k ∙ e'))
same_ends b fits o o' t e e' (at_told {x = x} {v = v} g rest told) (at_told {x = x'} {v = v'} g' rest' told') =
    record {
      verdict = verdict;
      rows = told-rows b fits o o' x x' g g' one rest rest' v v' verdict (fails_quiet b fits o x v g told);
      left = λ y y' k k'.
          subst (λ (z : Started). SameLeft z y') (going-one x y k)
          (subst (λ (z : Started). SameLeft x z) (going-one x' y' k') (same_left b fits o o' x x' g g' one rest rest'));
    }
  where
    one : g.target ≡ g'.target
    one = some_one g.target g'.target (sym g.is_target ∙ e ∙ sym e' ∙ g'.is_target)

    verdict : v ≡ v'
    verdict =
        one_verdict b g.target (record { verdict = v; left = Going x }) (record { verdict = v'; left = Going x' }) told
        (subst (λ (r : Rule). Told b r (record { verdict = v'; left = Going x' })) (sym one) told')

pub same_end : SameEndWhicheverSpots
same_end b fits t turns turns' views views' h h' e e' f f' end end' =
    same_ends b fits (target_of turns) (target_of turns') t e e'
    (known_end b fits (target_of turns) end (history_sane b fits turns views h))
    (known_end b fits (target_of turns') end' (history_sane b fits turns' views' h'))
