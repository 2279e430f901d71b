-- What is merged is forced, and at rest nothing else is.
use Rattle.std.proofs.Common.{◌≡◌, ℕ, ◌+◌, ◌-◌, ◌<◌, ◌≤◌, min, max, cond, eqb, ltb, List, map, length, sym, refl, ap, ◌∙◌, inl, inr, arith}
use mathlib.Core.List.Memᴰ
use mathlib.Core.List.{map-map}
use lib.ListN.{length-map}
use Rattle.std.proofs.lemmas.Bool.{lt-ltb, le-ltb, cond-true, cond-false, cond_both, eqb-true, cases_eq}
use Rattle.rules.specs.declared.term.Term.{Term}
use Rattle.rules.specs.declared.term.Term.TheVariants.{Constant, Variable}
use Rattle.rules.specs.declared.term.Kind.{Kind}
use Rattle.rules.specs.declared.term.Kind.TheVariants.{Functional, Equality}
use Rattle.rules.specs.Rules.{◌∈◌, Relation, Pattern, Valuation, at, Places, Rule, Agree, Keeps}
use Rattle.rules.specs.Books.{BookMeaning, base, Small, Stands}
use Rattle.rules.proofs.Members.{map_on}
use Rattle.law.specs.Implied.{Model}
use Rattle.law.specs.Groups.{Entry, Forced, State, Alone, OneGroup, current}
use Rattle.law.specs.Runs.{OpenSpot, Merge, Clashing, AtRest}
use Rattle.law.proofs.Lists.{min-max}
use Rattle.law.proofs.Starting.{Fit, Low, small_low, known-low}

-- the number that a valuation h of the starting rows gives to what shows as n: a constant is itself, and base + v is symbol v
abbrev pub reading : Valuation → ℕ → ℕ
reading h n = cond (ltb n base) n (h (n - base))

reading-constant : (h : Valuation) (n : ℕ) → n < base → reading h n ≡ n
reading-constant h n l = cond-true (ltb n base) n (h (n - base)) (lt-ltb n base l)

reading-symbol : (h : Valuation) (v : ℕ) → reading h (base + v) ≡ h v
reading-symbol h v =
    let far : base ≤ base + v = omega arith in
    let same : base + v - base ≡ v = omega arith in
    cond-false (ltb (base + v) base) (base + v) (h (base + v - base)) (le-ltb (base + v) base far) ∙ ap h same

-- the reading of a term under f is the term under the reading of f
reading-at : (h f : Valuation) (e : Term) → Low e → reading h (at f e) ≡ at (λ v. reading h (f v)) e
reading-at h f (Constant c) l = reading-constant h c l
reading-at h f (Variable v) l = refl

-- h gives each starting symbol the reading of what it shows as: h goes through the state
abbrev pub Through : Pattern → Valuation → State → Type 0
Through start h s = (v : ℕ) → Stands v start → reading h (s v) ≡ h v

through-at : (start : Pattern) (h : Valuation) (s : State) → Through start h s → (e : Term) → Entry start e → reading h (at s e) ≡ at h e
through-at start h s through (Constant c) k = reading-constant h c k
through-at start h s through (Variable v) k = through v k

-- what a rule compares it compares after a function too
pub agree_after : (k : Kind) (left : List ℕ) (F : ℕ → ℕ) (f g : Valuation) → Agree k left f g → Agree k left (λ v. F (f v)) (λ v. F (g v))
agree_after Functional left F f g same = λ v m. ap F (same v m)
agree_after Equality left F f g same = λ v. ap F (same v)

-- no relation that keeps the book has a placing of the starting rows
abbrev pub Impossible : BookMeaning → Pattern → Type 0
Impossible b start = (rel : Relation) → Model b rel → (h : Valuation) → Places h start rel → ⊥

-- every placing of the starting rows, in every relation that keeps the book, goes through the state
abbrev pub Sound : BookMeaning → Pattern → State → Type 0
Sound b start s = (rel : Relation) → Model b rel → (h : Valuation) → Places h start rel → Through start h s

pub alone_sound : (b : BookMeaning) (start : Pattern) (s : State) → Alone start s → Sound b start s
alone_sound b start s alone rel model h placed v k = ap (reading h) (alone v k) ∙ reading-symbol h v

module _ (b : BookMeaning) (start : Pattern) (fit : Fit b start) where
  module _ (s : State) (rel : Relation) (model : Model b rel) (h : Valuation) (placed : Places h start rel) (through : Through start h s) where
    -- a placing in the current rows, read by h, is one in the relation
    carried : (p : Pattern) → ((row : List Term) → row ∈ p → (e : Term) → e ∈ row → Small e) →
        (f : Valuation) → Places f p (current start s) → Places (λ v. reading h (f v)) p rel
    carried p small f places row n =
        let q = Memᴰ.of_map (map (at s)) start (places row n) in
        Memᴰ.cast
        (map_on (at (λ v. reading h (f v))) (λ e. reading h (at f e)) row (λ e k. sym (reading-at h f e (small_low e (small row n e k)))) ∙
        sym (map-map (reading h) (at f) row) ∙
        sym (ap (map (reading h)) q.2) ∙
        map-map (reading h) (at s) q.0 ∙
        map_on (λ e. reading h (at s e)) (at h) q.0 (λ e k. through-at start h s through e (fit.held.entries q.0 q.1 e k)))
        (placed q.0 q.1)

    -- the two sides of an open spot have one reading
    spot_reads : (x y : ℕ) → OpenSpot b.rules (current start s) x y → reading h x ≡ reading h y
    spot_reads x y o =
        let r = o.rule in
        let p = o.pair in
        let f = o.first in
        let g = o.second in
        let fits = fit.held.rules_fit r o.listed in
        let e =
        model.keeps r o.listed (λ v. reading h (f v)) (λ v. reading h (g v))
        (record {
          first = carried r.pattern fits.small f o.compared.first;
          second = carried r.pattern fits.small g o.compared.second;
          agree = agree_after r.kind r.left (reading h) f g o.compared.agree;
        })
        p o.paired
        in
        let k = fits.pairs_known p o.paired in
        sym (ap (reading h) o.left_is) ∙ reading-at h f p.0 (known-low r.pattern p.0 k.0) ∙ e ∙
        sym (reading-at h g p.1 (known-low r.pattern p.1 k.1)) ∙ ap (reading h) o.right_is

  -- a merge keeps a sound state sound
  pub merge_sound : (s s' : State) → Merge b.rules start s s' → Sound b start s → Sound b start s'
  merge_sound s s' m sound rel model h placed v stands =
      let through = sound rel model h placed in
      let e = spot_reads s rel model h placed through m.x m.y m.spot in
      ap (reading h) (m.merged v stands) ∙
      cond_both (eqb (s v) (max m.x m.y)) (min m.x m.y) (s v) (λ k. reading h k ≡ h v)
      (λ k. min-max (reading h) m.x m.y e ∙ sym (ap (reading h) (eqb-true (s v) (max m.x m.y) k)) ∙ through v stands)
      (λ k. through v stands)

  -- what is in one group is forced
  pub forced : (s : State) → Sound b start s → (e e' : Term) → Entry start e → Entry start e' → OneGroup s e e' → Forced b start e e'
  forced s sound e e' k k' one rel model h placed =
      let through = sound rel model h placed in
      sym (through-at start h s through e k) ∙ ap (reading h) one ∙ through-at start h s through e' k'

  -- a clash leaves no placing
  pub clash-impossible : (s : State) → Sound b start s → Clashing b.rules start s → Impossible b start
  clash-impossible s sound c rel model h placed =
      let x = c.x in
      let y = c.y in
      let low = c.constants in
      let e = spot_reads s rel model h placed (sound rel model h placed) x y c.spot in
      c.spot.differ (sym (reading-constant h x (omega arith)) ∙ e ∙ reading-constant h y (omega arith))

  -- the state itself places the starting rows in the current rows
  pub placed_here : (s : State) → Places s start (current start s)
  placed_here s row n = Memᴰ.map (map (at s)) n

  -- at rest the current rows keep the book
  pub rest_model : (s : State) → AtRest b.rules start s → Model b (current start s)
  rest_model s rest = record { of_width = wide; keeps = keeps }
    where
      wide : (row : List ℕ) → row ∈ current start s → length row ≡ b.width
      wide row n =
          let q = Memᴰ.of_map (map (at s)) start n in
          sym (ap length q.2) ∙ length-map q.0 (at s) ∙ fit.of_width q.0 q.1

      keeps : (r : Rule) → r ∈ b.rules → Keeps (current start s) r
      keeps r n f g c p m =
          elim (cases_eq (at f p.0) (at g p.1)) [
            | inl e ↦ e
            | inr d ↦
                absurd (rest (at f p.0) (at g p.1)
                (record { rule = r; listed = n; first = f; second = g; compared = c; pair = p; paired = m; left_is = refl; right_is = refl; differ = d }))
          ]

  -- at rest what is forced is in one group
  pub rest_exact : (s : State) → AtRest b.rules start s → (e e' : Term) → Forced b start e e' → OneGroup s e e'
  rest_exact s rest e e' all = all (current start s) (rest_model s rest) s (placed_here s)

-- where the current rows keep each rule nothing is open
pub kept-rest : (rules : List Rule) (start : Pattern) (s : State) → ((r : Rule) → r ∈ rules → Keeps (current start s) r) → AtRest rules start s
kept-rest rules start s keeps x y o =
    o.differ (sym o.left_is ∙ keeps o.rule o.listed o.first o.second o.compared o.pair o.paired ∙ o.right_is)
