use Rattle.std.proofs.Common.{◌≡◌, ℕ, [], ◌∷◌, refl, subst, ◌-◌, List, ◌++◌, min, length, take, drop, replicate, ap, ◌∙◌, append-nil, arith, rules, length-take, length-drop}
use borrow.Rule.Slice.PartMut.{put_mid}
use Rattle.std.specs.List.{FoldsTo}
use Rattle.std.proofs.lemmas.List.{take_min, drop_all}
use Rattle.text.proofs.list.blank_from.Goals as goal

-- what is filled by a call that always answers z
filled : {P A : Type 0} (R : P → A → P → Type 0) (z : A) (f : P) → ((x : A) (q : P) → R f x q → (q ≡ f) × (x ≡ z)) → (xs : List A) (last : P) → FoldsTo R f xs last → xs ≡ replicate (length xs) z
filled R z f one [] last h = refl
filled R z f one (x ∷ xs) last (q, step, h) =
    let s = one x q step in
    (λ i. s.1 i ∷ filled R z f one xs last (subst (λ p. FoldsTo R p xs last) s.0 h) i)

blanked : {X : Type 0} (xs ys : List X) (from a : ℕ) (z : X) → a ≡ min from (length xs) → length ys ≡ length (take (length xs - a) (drop a xs)) → ys ≡ replicate (length ys) z → put_mid a (length xs - a) xs ys ≡ take from xs ++ replicate (length xs - from) z
blanked xs ys from a z cut long all =
    let n : length ys ≡ length xs - from = omega (arith, length-take (length xs - a) (drop a xs), length-drop a xs) in
    let front = ap (λ k. take k xs) cut ∙ take_min from xs in
    let none = drop_all (length xs - a) (drop a xs) (omega (arith, length-drop a xs)) in
    let back = ap (λ zs. ys ++ zs) none ∙ append-nil ys ∙ all ∙ ap (λ k. replicate k z) n in
    (λ i. front i ++ back i)

pub returns : goal.returns
returns g c =
    let all = filled _ c.args.zero _ (λ x q k. search rules) c.fill_with.new.self _ c.fill_with.ensures.ran.1 in
    blanked c.args.places.now c.fill_with.new.self c.args.from c.min-from.result c.args.zero c.min-from.ensures c.fill_with.ensures.len all
