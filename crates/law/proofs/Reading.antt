-- Entries read by their places in rows.
use Rattle.std.proofs.Common.{◌≡◌, ℕ, zero, suc, List, [], ◌∷◌, map, Some, None, Option, sym, refl, ap, ◌∙◌}
use mathlib.Core.List.Memᴰ
use Rattle.std.specs.List.{slice_get}
use Rattle.std.specs.Option.{option_map}
use Rattle.rules.specs.declared.term.Term.{Term}
use Rattle.rules.specs.declared.term.Term.TheVariants.{Constant, Variable}
use Rattle.rules.specs.Rules.{◌∈◌, Pattern, at}
use Rattle.rules.specs.Books.{Stands, within}
use Rattle.law.specs.Groups.{Entry, State, current, place, Reads}

nth_map : {A B : Type 0} (f : A → B) (xs : List A) (i : ℕ) → slice_get (map f xs) i ≡ option_map f (slice_get xs i)
nth_map f [] i = refl
nth_map f (x ∷ xs) zero = refl
nth_map f (x ∷ xs) (suc i) = nth_map f xs i

within-map : {A B C : Type 0} (g : A → B) (f : B → Option C) (o : Option A) → within (option_map g o) f ≡ within o (λ a. f (g a))
within-map g f None = refl
within-map g f (Some a) = refl

mapped_within : {A B C : Type 0} (f : A → Option B) (g : B → C) (h : A → Option C) → ((a : A) → h a ≡ option_map g (f a)) → (o : Option A) →
    within o h ≡ option_map g (within o f)
mapped_within f g h e None = refl
mapped_within f g h e (Some a) = e a

-- what stands in a place of rows stands there mapped when each entry is mapped
pub place_map : {A B : Type 0} (f : A → B) (rows : List (List A)) (i j : ℕ) → place (map (map f) rows) i j ≡ option_map f (place rows i j)
place_map f rows i j =
    ap (λ o. within o (λ row. slice_get row j)) (nth_map (map f) rows i) ∙ within-map (map f) (λ row. slice_get row j) (slice_get rows i) ∙
    mapped_within (λ row. slice_get row j) f (λ row. slice_get (map f row) j) (λ row. nth_map f row j) (slice_get rows i)

member_nth : {A : Type 0} (xs : List A) (x : A) → x ∈ xs → (i : ℕ) × (slice_get xs i ≡ Some x)
member_nth [] x m = elim m [ ]
member_nth (y ∷ ys) x (Memᴰ.head e) = (0, ap Some (sym e))
member_nth (y ∷ ys) x (Memᴰ.tail m) = let r = member_nth ys x m in (suc r.0, r.1)

-- a symbol that stands in the rows has a place there
stands-place : (start : Pattern) (v : ℕ) → Stands v start → (i : ℕ) × (j : ℕ) × (place start i j ≡ Some (Variable v))
stands-place start v s =
    let i = member_nth start s.0 s.1 in
    let j = member_nth s.0 (Variable v) s.2 in
    (i.0, j.0, ap (λ (o : Option (List Term)). within o (λ row. slice_get row j.0)) i.1 ∙ j.1)

-- in the current rows each entry reads as what it shows as, and as nothing else
pub reads_shown : (start : Pattern) (s : State) (e : Term) → Reads start (current start s) e (at s e)
reads_shown start s (Constant c) = refl
reads_shown start s (Variable v) = λ i j k. place_map (at s) start i j ∙ ap (option_map (at s)) k

pub shown_read : (start : Pattern) (s : State) (e : Term) → Entry start e → (n : ℕ) → Reads start (current start s) e n → n ≡ at s e
shown_read start s (Constant c) k n r = r
shown_read start s (Variable v) k n r =
    let p = stands-place start v k in
    let a : place (current start s) p.0 p.1 ≡ Some n = r p.0 p.1 p.2 in
    let b : place (current start s) p.0 p.1 ≡ Some (s v) = reads_shown start s (Variable v) p.0 p.1 p.2 in
    some_one n (s v) (sym a ∙ b)
  where
    some_one : (x y : ℕ) → Some x ≡ Some y → x ≡ y
    some_one x y e = cc
