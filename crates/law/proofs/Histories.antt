-- What is known of a trial after each call of a history.
use Rattle.std.proofs.Common.{◌≡◌, ℕ, zero, suc, Bool, true, false, ◌⊎◌, List, [], ◌∷◌, ◌++◌, Some, None, Option, sym, refl, ap, ◌∙◌, subst, inl, inr, arith}
use mathlib.Core.List.Memᴰ
use Rattle.std.specs.List.{slice_get}
use Rattle.rules.specs.Rules.{◌∈◌, Pattern, Rule}
use Rattle.rules.specs.Books.{BookMeaning, WellFormed, WellFormedBook}
use Rattle.rules.specs.Doubled.{doubled_rows, doubled_pairs}
use Rattle.law.specs.Groups.{State}
use Rattle.law.specs.Runs.{Merges}
use Rattle.law.specs.Calls.{Started, View, Blank, Going, moved, Call, Start, Advance, Answer, Starts, not_blank, no_rule, targets_width, begun, Advances, still_blank, advance_width, stopped, spent, rests, clashes}
use Rattle.law.specs.Promise.{Turn, Steps, Answered, no_turn, next, last_view, named, or_later, target_of, TargetsFit, Given, History, LeadsTo}
use Rattle.law.proofs.Starting.{Fit, starts_fit}
use Rattle.law.proofs.Sound.{Impossible, clash-impossible}
use Rattle.law.proofs.Lawful.{Lawful, alone_lawful, merges_lawful}

-- what is known of a started trial, where the calls so far have the target o
pub record Good (b : BookMeaning) (o : Option Rule) (x : Started) : Type 0 where
  pub target : Rule
  pub is_target : o ≡ Some target
  pub fits : WellFormed b.width target
  pub width_is : x.width ≡ b.width
  pub rows_are : x.rows ≡ doubled_rows target
  pub pairs_are : x.pairs ≡ doubled_pairs target
  pub lawful : Lawful b x.rows x.shows x.merges
  pub clash : x.clashed ≡ true → Impossible b x.rows

-- a blank trial has no target
abbrev pub Sane : BookMeaning → Option Rule → View → Type 0
Sane b o Blank = o ≡ None
Sane b o (Going x) = Good b o x

nth_member : {A : Type 0} (xs : List A) (k : ℕ) (x : A) → slice_get xs k ≡ Some x → x ∈ xs
nth_member [] k x e = let z : ◌≡◌ {A = ℕ} 0 1 = cc in absurd (omega arith)
nth_member (y ∷ ys) zero x e = let z : x ≡ y = cc in Memᴰ.head z
nth_member (y ∷ ys) (suc k) x e = Memᴰ.tail (nth_member ys k x e)

pub true_false : false ≡ true → ⊥
true_false e = let z : ◌≡◌ {A = ℕ} 0 1 = cc in omega arith

pub later-none : {A : Type 0} (o : Option A) → or_later o None ≡ o
later-none None = refl
later-none (Some a) = refl

later-later : {A : Type 0} (o o' o'' : Option A) → or_later (or_later o o') o'' ≡ or_later o (or_later o' o'')
later-later None o' o'' = refl
later-later (Some a) o' o'' = refl

pub good_later : (b : BookMeaning) (o o' : Option Rule) (x : Started) → Good b o x → Good b (or_later o o') x
good_later b o o' x g =
    record {
      target = g.target;
      is_target = ap (λ (k : Option Rule). or_later k o') g.is_target;
      fits = g.fits;
      width_is = g.width_is;
      rows_are = g.rows_are;
      pairs_are = g.pairs_are;
      lawful = g.lawful;
      clash = g.clash;
    }

module _ (b : BookMeaning) (book_fits : WellFormedBook b) where
  pub good_fit : (o : Option Rule) (x : Started) → Good b o x → Fit b x.rows
  good_fit o x g = subst (λ (p : Pattern). Fit b p) (sym g.rows_are) (starts_fit b book_fits g.target g.fits)

  -- more merges, and perhaps a clash
  pub good_moved : (o : Option Rule) (x : Started) → Good b o x → (s : State) (m : ℕ) → Merges b.rules x.rows x.shows s m →
      (c : Bool) → (c ≡ true → Impossible b x.rows) → Good b o (moved x s m c)
  good_moved o x g s m merges c clash =
      record {
        target = g.target;
        is_target = g.is_target;
        fits = g.fits;
        width_is = g.width_is;
        rows_are = g.rows_are;
        pairs_are = g.pairs_are;
        lawful = merges_lawful b x.rows (good_fit o x g) x.shows x.merges g.lawful merges;
        clash = clash;
      }

  pub started-sane : (o : Option Rule) (targets : BookMeaning) (k : ℕ) → WellFormedBook targets → {x y : View} {a : Answer} →
      Starts b targets k x a y → Sane b o x → Sane b (or_later o (named (Start targets k) a)) y
  started-sane o targets k targets_fit (not_blank {x = x}) sane = good_later b o None x sane
  started-sane o targets k targets_fit (no_rule l) sane = ap (λ (i : Option Rule). or_later i None) sane
  started-sane o targets k targets_fit (targets_width l d) sane = ap (λ (i : Option Rule). or_later i None) sane
  started-sane o targets k targets_fit (begun {t = t} {s = s} number width alone) sane =
      record {
        target = t;
        is_target = ap (λ (i : Option Rule). or_later i (slice_get targets.rules k)) sane ∙ number;
        fits = subst (λ (w : ℕ). WellFormed w t) width (targets_fit.rules_fit t (nth_member targets.rules k t number));
        width_is = width;
        rows_are = refl;
        pairs_are = refl;
        lawful = alone_lawful b (doubled_rows t) s alone;
        clash = λ e. absurd (true_false e);
      }

  advanced-sane : (o : Option Rule) (n : ℕ) {x y : View} {a : Answer} → Advances b n x a y → Sane b o x → Sane b o y
  advanced-sane o n still_blank sane = sane
  advanced-sane o n (advance_width d) sane = sane
  advanced-sane o n (stopped w c) sane = sane
  advanced-sane o n (spent {x = x} {s = s} w c merges) sane = good_moved o x sane s n merges false (λ e. absurd (true_false e))
  advanced-sane o n (rests {x = x} {s = s} {m = m} w c merges l rest) sane = good_moved o x sane s m merges false (λ e. absurd (true_false e))
  advanced-sane o n (clashes {x = x} {s = s} {m = m} w c merges l clash) sane =
      let after = merges_lawful b x.rows (good_fit o x sane) x.shows x.merges sane.lawful merges in
      good_moved o x sane s m merges true (λ e. clash-impossible b x.rows (good_fit o x sane) s after.sound clash)

  call_sane : (o : Option Rule) (c : Call) → TargetsFit c → (x y : View) (a : Answer) → Steps b c x a y → Sane b o x → Sane b (or_later o (named c a)) y
  call_sane o (Start targets k) fit x y a step sane = started-sane o targets k fit step sane
  call_sane o (Advance n) fit x y a step sane = subst (λ (i : Option Rule). Sane b i y) (sym (later-none o)) (advanced-sane o n step sane)

  pub turn_sane : (o : Option Rule) (t : Turn) → Given b t → (x y : View) → Steps t.book t.call x t.answer y → Sane b o x →
      Sane b (or_later o (named t.call t.answer)) y
  turn_sane o t given x y step sane =
      call_sane o t.call given.targets_fit x y t.answer
      (subst (λ (c : BookMeaning). Steps c t.call x t.answer y) given.book_is step) sane

  last_sane : (o : Option Rule) {x : View} {turns : List Turn} {views : List View} → Answered x turns views → ((t : Turn) → t ∈ turns → Given b t) →
      Sane b o x → Sane b (or_later o (target_of turns)) (last_view x views)
  last_sane o {x = x} no_turn given sane = subst (λ (i : Option Rule). Sane b i x) (sym (later-none o)) sane
  last_sane o (next {x = x} {y = y} {t = t} {turns = turns} {views = views} step rest) given sane =
      let after = turn_sane o t (given t (Memᴰ.head refl)) x y step sane in
      subst (λ (i : Option Rule). Sane b i (last_view y views)) (later-later o (named t.call t.answer) (target_of turns))
      (last_sane (or_later o (named t.call t.answer)) rest (λ u m. given u (Memᴰ.tail m)) after)

  each-good : (o : Option Rule) {x : View} {turns : List Turn} {views : List View} → Answered x turns views → ((t : Turn) → t ∈ turns → Given b t) →
      Sane b o x → (z : Started) → Going z ∈ views → Good b (or_later o (target_of turns)) z
  each-good o no_turn given sane z m = elim m [ ]
  each-good o (next {x = x} {y = y} {t = t} {turns = turns} {views = views} step rest) given sane z m =
      subst (λ (i : Option Rule). Good b i z) (later-later o n (target_of turns))
      (go (Memᴰ.cases_cons m) (each-good (or_later o n) rest (λ u k. given u (Memᴰ.tail k)) after z))
    where
      n : Option Rule
      n = named t.call t.answer

      after : Sane b (or_later o n) y
      after = turn_sane o t (given t (Memᴰ.head refl)) x y step sane

      go : (Going z ≡ y) ⊎ (Going z ∈ views) → (Going z ∈ views → Good b (or_later (or_later o n) (target_of turns)) z) →
          Good b (or_later (or_later o n) (target_of turns)) z
      go (inl e) later = good_later b (or_later o n) (target_of turns) z (subst (Sane b (or_later o n)) (sym e) after)
      go (inr k) later = later k

  -- after a history: of each view, and of the last
  pub history_good : (turns : List Turn) (views : List View) → History b turns views → (z : Started) → Going z ∈ views → Good b (target_of turns) z
  history_good turns views h = each-good None h.answered h.given refl

  pub history_sane : (turns : List Turn) (views : List View) → History b turns views → Sane b (target_of turns) (last_view Blank views)
  history_sane turns views h = last_sane None h.answered h.given refl

-- one more call
answered_more : {x : View} {turns : List Turn} {views : List View} → Answered x turns views → (t : Turn) (y : View) →
    Steps t.book t.call (last_view x views) t.answer y → Answered x (turns ++ (t ∷ [])) (views ++ (y ∷ []))
answered_more no_turn t y step = next step no_turn
answered_more (next first rest) t y step = next first (answered_more rest t y step)

last_more : (x : View) (views : List View) (y : View) → last_view x (views ++ (y ∷ [])) ≡ y
last_more x [] y = refl
last_more x (z ∷ views) y = last_more z views y

-- a history with one call added
pub history_added : (b : BookMeaning) (turns : List Turn) (views : List View) (x : View) → LeadsTo b turns views x →
    (t : Turn) → Given b t → (y : View) → Answered Blank (turns ++ (t ∷ [])) (views ++ (y ∷ [])) → LeadsTo b (turns ++ (t ∷ [])) (views ++ (y ∷ [])) y
history_added b turns views x l t given y answered =
    record {
      history = record { given = λ u m. go u (Memᴰ.append_cases turns m); answered = answered };
      ends_at = last_more Blank views y;
    }
  where
    go : (u : Turn) → (u ∈ turns) ⊎ (u ∈ (t ∷ [])) → Given b u
    go u (inl m) = l.history.given u m
    go u (inr m) = elim (Memᴰ.cases_cons m) [ inl e ↦ subst (Given b) (sym e) given | inr k ↦ elim k [ ] ]

-- a history goes on by one step
pub history_more : (b : BookMeaning) (turns : List Turn) (views : List View) (x : View) → LeadsTo b turns views x →
    (t : Turn) → Given b t → (y : View) → Steps t.book t.call x t.answer y → LeadsTo b (turns ++ (t ∷ [])) (views ++ (y ∷ [])) y
history_more b turns views x l t given y step =
    history_added b turns views x l t given y
    (answered_more l.history.answered t y (subst (λ (z : View). Steps t.book t.call z t.answer y) (sym l.ends_at) step))

-- no call yet
pub history_none : (b : BookMeaning) → LeadsTo b [] [] Blank
history_none b = record { history = record { given = λ t m. elim m [ ]; answered = no_turn }; ends_at = refl }
