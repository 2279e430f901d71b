-- A list of numbers holds a state, and one pass over it makes a merge.
use Rattle.std.proofs.Common.{◌≡◌, ℕ, zero, suc, ◌+◌, ◌<◌, ◌≤◌, min, max, cond, eqb, List, [], ◌∷◌, map, get_or, sym, refl, ap, ◌∙◌, subst, arith}
use mathlib.Core.List.Memᴰ
use lib.ListN.{get_or-map}
use Rattle.std.proofs.lemmas.Bool.{cond-false, cond_both, ne_eqb}
use Rattle.rules.specs.Rules.{◌∈◌, Pattern, Rule}
use Rattle.rules.specs.Books.{base}
use Rattle.law.specs.Groups.{current}
use Rattle.law.specs.Runs.{OpenSpot, Merge}
use Rattle.law.specs.Stored.{stored, replaced, Held, SmallNumbers, Storing}
use Rattle.law.proofs.Lists.{at-max}
use Rattle.law.proofs.Shown.{ShownBy, left_shown, right_shown, merge_counts, merges_few}

-- a pass that replaces a number other than 0 is a pass over what is stored
pass_stored : (shown : List ℕ) (one other : ℕ) → (0 ≡ one → ⊥) → (v : ℕ) → stored (replaced one other shown) v ≡ cond (eqb (stored shown v) one) other (stored shown v)
pass_stored shown one other apart v =
    let F : ℕ → ℕ = λ n. cond (eqb n one) other n in
    let zero-stays : F 0 ≡ 0 = cond-false (eqb 0 one) other 0 (ne_eqb 0 one apart) in
    sym (ap (get_or (map F shown) v) zero-stays) ∙ get_or-map F shown v 0

pass : (rules : List Rule) (start : Pattern) (shown : List ℕ) (x y : ℕ) → OpenSpot rules (current start (stored shown)) x y →
    base ≤ max x y → Merge rules start (stored shown) (stored (replaced (max x y) (min x y) shown))
pass rules start shown x y o l =
    record { x = x; y = y; spot = o; no_clash = l; merged = λ v k. pass_stored shown (max x y) (min x y) (λ e. omega arith) v }

-- a number other than 0 that is stored is in the list
stored-member : (shown : List ℕ) (v : ℕ) → (0 ≡ stored shown v → ⊥) → stored shown v ∈ shown
stored-member [] v d = absurd (d refl)
stored-member (n ∷ ns) zero d = Memᴰ.head refl
stored-member (n ∷ ns) (suc v) d = Memᴰ.tail (stored-member ns v d)

shown-small : (start : Pattern) (shown : List ℕ) (n : ℕ) → base ≤ n → ShownBy start (stored shown) n → SmallNumbers shown → n < base + 64
shown-small start shown n l k small =
    let is = k.2 in
    let less = small (stored shown k.0) (stored-member shown k.0 (λ e. omega arith)) in
    omega arith

small : (width : ℕ) (rules : List Rule) (start : Pattern) → Held width rules start → (shown : List ℕ) (x y : ℕ) →
    OpenSpot rules (current start (stored shown)) x y → base ≤ max x y → SmallNumbers shown → SmallNumbers (replaced (max x y) (min x y) shown)
small width rules start held shown x y o l low n m =
    let high =
    at-max (λ k. base ≤ k → ShownBy start (stored shown) k) x y
    (left_shown width rules start held (stored shown) x y o) (right_shown width rules start held (stored shown) x y o) l
    in
    let top = shown-small start shown (max x y) l high low in
    let q = Memᴰ.of_map (λ n. cond (eqb n (max x y)) (min x y) n) shown m in
    subst (λ (k : ℕ). k < base + 64) q.2
    (cond_both (eqb q.0 (max x y)) (min x y) q.0 (λ k. k < base + 64) (λ e. omega arith) (λ e. low q.0 q.1))

pub storing : Storing
storing =
    record {
      first = λ start near shown alone v k. alone v (near v k);
      pass = pass;
      less = λ width rules start held shown x y o l.
          merge_counts width rules start held (stored shown) (stored (replaced (max x y) (min x y) shown))
          (pass rules start shown x y o l);
      few = λ width rules start held near s s' m merges. merges_few width rules start held near s merges;
      small = small;
    }
