-- A relation keeps the rule of a pair of bytes exactly when it has the pair's functional dependency.
use Rattle.std.proofs.Common.{◌≡◌, ℕ, zero, suc, ◌+◌, ◌*◌, ◌<◌, ◌↔◌, List, [], ◌∷◌, map, get_or, Some, sym, refl, ap, ◌∙◌, subst, arith}
use mathlib.Core.List.Memᴰ
use Rattle.std.specs.List.{range_with_len, slice_get}
use Rattle.std.proofs.lemmas.List.FromFn.{fill_by_all, get_or-map-range_with_len}
use Rattle.rules.specs.declared.term.Term.{Term}
use Rattle.rules.specs.declared.term.Term.TheVariants.{Variable}
use Rattle.rules.specs.Rules.{◌∈◌, Relation, OfWidth, Valuation, at, Places, Rule, Keeps}
use Rattle.keys.specs.Keys.{SoundKeys, columns, variables, twice, key_rule, key_rules}
use Rattle.keys.specs.Laws.{Depends, Dependencies}
use Rattle.keys.specs.Wells.{column_in, in_column}
use Rattle.keys.proofs.Steps.{rules_length}

map_at : (f : Valuation) (vs : List ℕ) → map (at f) (map Variable vs) ≡ map f vs
map_at f [] = refl
map_at f (v ∷ vs) = ap (λ (ns : List ℕ). f v ∷ ns) (map_at f vs)

module _ (width left right : ℕ) (rel : Relation) where
  -- a row places the pattern, and a placing is seen in its row
  placed : OfWidth width rel → (r : List ℕ) → r ∈ rel → Places (λ v. get_or r v 0) (variables width ∷ []) rel
  placed wide r m row k =
      let f : Valuation = λ v. get_or r v 0 in
      let e : map (at f) row ≡ r = ap (map (at f)) (Memᴰ.eq_of_singleton k) ∙ map_at f (range_with_len 0 width) ∙ sym (fill_by_all f r width 0 (wide r m) (λ k h. refl)) in
      Memᴰ.cast e m

  seen : (f : Valuation) (j : ℕ) → j < width → get_or (map (at f) (variables width)) j 0 ≡ f j
  seen f j h = ap (λ (ns : List ℕ). get_or ns j 0) (map_at f (range_with_len 0 width)) ∙ get_or-map-range_with_len f 0 width j j 0 h (omega arith)

  depends_from : OfWidth width rel → Keeps rel (key_rule width left right) → Depends width left right rel
  depends_from wide keeps r s mr ms agree j h bit =
      keeps (λ v. get_or r v 0) (λ v. get_or s v 0) (record {
        first = placed wide r mr;
        second = placed wide s ms;
        agree = λ v m. let k = column_in width left v m in agree v k.0 k.1;
      }) (twice j) (Memᴰ.map twice (in_column width right j h bit))

  keeps_from : Depends width left right rel → Keeps rel (key_rule width left right)
  keeps_from depends f g c q m =
      let w = Memᴰ.of_map twice (columns width right) m in
      let v = w.0 in
      let k = column_in width right v w.1 in
      let rows = depends (map (at f) (variables width)) (map (at g) (variables width)) (c.first (variables width) (Memᴰ.head refl)) (c.second (variables width) (Memᴰ.head refl)) (λ j h bit. seen f j h ∙ c.agree j (in_column width left j h bit) ∙ sym (seen g j h)) v k.0 k.1 in
      sym (ap (λ (x : Term × Term). at f x.0) w.2) ∙ sym (seen f v k.0) ∙ rows ∙ seen g v k.0 ∙ ap (λ (x : Term × Term). at g x.1) w.2

  keeps_depends : OfWidth width rel → Keeps rel (key_rule width left right) ↔ Depends width left right rel
  keeps_depends wide = (depends_from wide, keeps_from)

rule_is : (width : ℕ) (bytes : List ℕ) (i : ℕ) (rule : Rule) → slice_get (key_rules width bytes) i ≡ Some rule → key_rule width (get_or bytes (i * 2) 0) (get_or bytes (i * 2 + 1) 0) ≡ rule
rule_is width [] i rule e = let z : ◌≡◌ {A = ℕ} 0 1 = cc in absurd (omega arith)
rule_is width (a ∷ []) i rule e = let z : ◌≡◌ {A = ℕ} 0 1 = cc in absurd (omega arith)
rule_is width (a ∷ b ∷ bytes) zero rule e = cc
rule_is width (a ∷ b ∷ bytes) (suc i) rule e =
    let p : suc i * 2 ≡ suc (suc (i * 2)) = omega arith in
    let q : suc i * 2 + 1 ≡ suc (suc (i * 2 + 1)) = omega arith in
    (λ k. key_rule width (get_or (a ∷ b ∷ bytes) (p k) 0) (get_or (a ∷ b ∷ bytes) (q k) 0)) ∙ rule_is width bytes i rule e

pub dependencies : (width : ℕ) (bytes : List ℕ) → SoundKeys width bytes → Dependencies width bytes (key_rules width bytes)
dependencies width bytes s = record {
  one_each = let l = rules_length width bytes in let p = s.paired in omega arith;
  kept = λ i rule e rel wide.
      let P : Rule → Type 0 = λ r. Keeps rel r ↔ Depends width (get_or bytes (i * 2) 0) (get_or bytes (i * 2 + 1) 0) rel in
      subst P (rule_is width bytes i rule e) (keeps_depends width (get_or bytes (i * 2) 0) (get_or bytes (i * 2 + 1) 0) rel wide);
}
