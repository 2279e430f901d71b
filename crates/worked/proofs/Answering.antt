-- What a start and then advances answer.
use Rattle.std.proofs.Common.{◌≡◌, ℕ, ◌-◌, List, [], ◌∷◌, map, Some, None, Option, sym, refl, ap, ◌∙◌, subst, ap₂, arith}
use mathlib.Core.List.Memᴰ
use Rattle.rules.specs.Rules.{◌∈◌, Rule}
use Rattle.rules.specs.Books.{BookMeaning, WellFormed, WellFormedBook}
use Rattle.rules.specs.Doubled.{doubled_rows}
use Rattle.law.specs.Groups.{State}
use Rattle.law.specs.Runs.{AtRest}
use Rattle.law.specs.Calls.{View, Blank, Call, Start, Advance, Answer, Done, Starts, no_rule, targets_width, begun}
use Rattle.law.specs.Promise.{Turn, Steps, Answered, no_turn, next, named, or_later, target_of, Given}
use Rattle.law.specs.Laws.{due, merges_of}
use Rattle.law.proofs.Lawful.{Lawful}
use Rattle.law.proofs.SameEnd.{none_some}
use Rattle.law.proofs.Histories.{Sane, turn_sane, later-none}
use Rattle.law.proofs.Due.{advance_due}

abbrev pub calls : List Turn → List Call
calls turns = map (λ (t : Turn). t.call) turns

abbrev pub answers : List Turn → List Answer
answers turns = map (λ (t : Turn). t.answer) turns

-- the answers due to advances, where so many merges are left to make
abbrev pub dues : ℕ → List ℕ → List Answer
dues left [] = []
dues left (n ∷ ns) = due left n ∷ dues (left - n) ns

head_of : {A : Type 0} (x y : A) (xs ys : List A) → x ∷ xs ≡ y ∷ ys → x ≡ y
head_of x y xs ys e = cc

tail_of : {A : Type 0} (x y : A) (xs ys : List A) → x ∷ xs ≡ y ∷ ys → xs ≡ ys
tail_of x y xs ys e = cc

empty_cons : {A : Type 0} (x : A) (xs : List A) → [] ≡ x ∷ xs → ⊥
empty_cons x xs e = let z : ◌≡◌ {A = ℕ} 0 1 = cc in omega arith

-- advances name no target
no_target : (turns : List Turn) (ns : List ℕ) → calls turns ≡ map Advance ns → target_of turns ≡ None
no_target [] ns e = refl
no_target (t ∷ turns) [] e = absurd (empty_cons t.call (calls turns) (sym e))
no_target (t ∷ turns) (n ∷ ns) e =
    ap (λ (c : Call). or_later (named c t.answer) (target_of turns)) (head_of t.call (Advance n) (calls turns) (map Advance ns) e) ∙
    no_target turns ns (tail_of t.call (Advance n) (calls turns) (map Advance ns) e)

module _ (b : BookMeaning) (fits : WellFormedBook b) (t : Rule) (target_fits : WellFormed b.width t) where
  module _ (s₀ : State) (all : ℕ) (lawful₀ : Lawful b (doubled_rows t) s₀ all) (rest₀ : AtRest b.rules (doubled_rows t) s₀) where
    advances : (o : Option Rule) → o ≡ Some t → (ns : List ℕ) (left : ℕ) {x : View} {turns : List Turn} {views : List View} → Answered x turns views →
        ((u : Turn) → u ∈ turns → Given b u) → Sane b o x → all - merges_of x ≡ left → calls turns ≡ map Advance ns → answers turns ≡ dues left ns
    advances o e [] left no_turn given sane l is = refl
    advances o e (n ∷ ns) left no_turn given sane l is = absurd (empty_cons (Advance n) (map Advance ns) is)
    advances o e [] left (next {t = u} {turns = turns} step rest) given sane l is = absurd (empty_cons u.call (calls turns) (sym is))
    advances o e (n ∷ ns) left (next {x = x} {y = y} {t = u} {turns = turns} step rest) given sane l is =
        let call-is = head_of u.call (Advance n) (calls turns) (map Advance ns) is in
        let g = given u (Memᴰ.head refl) in
        let k =
        advance_due b fits t target_fits s₀ all lawful₀ rest₀ o e n {x = x} {y = y} {a = u.answer}
        (subst (λ (c : Call). Steps b c x u.answer y) call-is (subst (λ (c : BookMeaning). Steps c u.call x u.answer y) g.book_is step)) sane
        in
        let after : Sane b o y =
        subst (λ (i : Option Rule). Sane b i y)
        (ap (λ (c : Call). or_later o (named c u.answer)) call-is ∙ later-none o)
        (turn_sane b fits o u g x y step sane)
        in
        ap₂ ◌∷◌ (k.0 ∙ ap (λ (i : ℕ). due i n) l)
        (advances o e ns (left - n) rest (λ w m. given w (Memᴰ.tail m)) after (k.1 ∙ ap (λ (i : ℕ). i - n) l)
        (tail_of u.call (Advance n) (calls turns) (map Advance ns) is))

  -- a start that names a target is done
  start-done : (targets : BookMeaning) (k : ℕ) {y : View} {a : Answer} → Starts b targets k Blank a y → or_later (named (Start targets k) a) None ≡ Some t →
      (a ≡ Done) × (merges_of y ≡ 0)
  start-done targets k (no_rule l) e = absurd (none_some t e)
  start-done targets k (targets_width l d) e = absurd (none_some t e)
  start-done targets k (begun number width alone) e = (refl, refl)

  module _ (turns : List Turn) (views : List View) (targets : BookMeaning) (k : ℕ) (ns : List ℕ) where
    -- the first turn is a start that is done, and the trial has then made no merge
    first_done : (u : Turn) (y : View) → Given b u → Steps u.book u.call Blank u.answer y → u.call ≡ Start targets k →
        or_later (named u.call u.answer) (target_of turns) ≡ Some t → calls turns ≡ map Advance ns → (u.answer ≡ Done) × (merges_of y ≡ 0)
    first_done u y g step call-is e is =
        start-done targets k
        (subst (λ (c : Call). Steps b c Blank u.answer y) call-is (subst (λ (c : BookMeaning). Steps c u.call Blank u.answer y) g.book_is step))
        (sym (ap₂ (λ (c : Call) (o : Option Rule). or_later (named c u.answer) o) call-is (no_target turns ns is)) ∙ e)

  -- where a run comes to rest, all answers are due
  pub answers-at_rest : (s₀ : State) (all : ℕ) → Lawful b (doubled_rows t) s₀ all → AtRest b.rules (doubled_rows t) s₀ →
      (turns : List Turn) (views : List View) → Answered Blank turns views → ((u : Turn) → u ∈ turns → Given b u) → target_of turns ≡ Some t →
      (targets : BookMeaning) (k : ℕ) (ns : List ℕ) → calls turns ≡ Start targets k ∷ map Advance ns → answers turns ≡ Done ∷ dues all ns
  answers-at_rest s₀ all lawful₀ rest₀ turns views no_turn given e targets k ns is = absurd (empty_cons (Start targets k) (map Advance ns) is)
  answers-at_rest s₀ all lawful₀ rest₀ turns views (next {y = y} {t = u} {turns = later} {views = after} step rest) given e targets k ns is =
      let call-is = head_of u.call (Start targets k) (calls later) (map Advance ns) is in
      let calls_are = tail_of u.call (Start targets k) (calls later) (map Advance ns) is in
      let g = given u (Memᴰ.head refl) in
      let done = first_done later after targets k ns u y g step call-is e calls_are in
      let begun-at : Sane b (or_later None (named u.call u.answer)) y = turn_sane b fits None u g Blank y step refl in
      let none_left : all - merges_of y ≡ all = (let z = done.1 in omega arith) in
      ap₂ ◌∷◌ done.0
      (advances s₀ all lawful₀ rest₀ (named u.call u.answer)
      (sym (later-none (named u.call u.answer)) ∙ ap (λ (o : Option Rule). or_later (named u.call u.answer) o) (sym (no_target later ns calls_are)) ∙ e)
      ns all rest (λ w m. given w (Memᴰ.tail m)) begun-at none_left calls_are)

  -- a start alone
  pub answers-of_start : (turns : List Turn) (views : List View) → Answered Blank turns views → ((u : Turn) → u ∈ turns → Given b u) →
      target_of turns ≡ Some t → (targets : BookMeaning) (k : ℕ) → calls turns ≡ Start targets k ∷ [] → answers turns ≡ Done ∷ []
  answers-of_start turns views no_turn given e targets k is = absurd (empty_cons (Start targets k) [] is)
  answers-of_start turns views (next {y = y} {t = u} {turns = later} {views = after} step rest) given e targets k is =
      let call-is = head_of u.call (Start targets k) (calls later) [] is in
      let calls_are = tail_of u.call (Start targets k) (calls later) [] is in
      let g = given u (Memᴰ.head refl) in
      ap₂ ◌∷◌ (first_done later after targets k [] u y g step call-is e calls_are).0 (none_later later calls_are)
    where
      none_later : (turns : List Turn) → calls turns ≡ [] → answers turns ≡ []
      none_later [] e = refl
      none_later (u ∷ us) e = absurd (empty_cons u.call (calls us) (sym e))
