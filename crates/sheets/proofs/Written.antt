-- A book that is written down passes, and is read again.
use Rattle.std.proofs.Common.{◌≡◌, ℕ, Bool, zero, suc, ◌+◌, ◌-◌, ◌*◌, ◌<◌, ◌≤◌, true, eqb, ltb, leb, List, [], ◌∷◌, ◌++◌, map, length, get_or, take, drop, Ok, sym, refl, ap, ◌∙◌, subst, ⊎_elim, append_assoc, suc-mul, zero-mul, arith}
use mathlib.Core.List.Memᴰ
use mathlib.Core.List.{Memᴰ}
use Rattle.std.specs.List.{flat_map, AllByRecursion}
use Rattle.std.proofs.lemmas.List.{take_at, drop_at, drop-drop, length-append, length-drop, length-map, get_or-drop, get_or_append_left}
use Rattle.std.proofs.ByRecursion.{All-get_or, All-append}
use Rattle.std.proofs.lemmas.Bool.{lt-ltb, le-ltb, le-leb, eq-eqb, and_from, or_left, or_right, or_cases, and_parts, leb-true, ltb-true}
use Rattle.rules.specs.Rules.{Rule, Pattern, ◌∈◌}
use Rattle.rules.specs.Books.{base, Small, Stands, Known, PairOf, LeftOf, WellFormed}
use Rattle.sheets.specs.Walk.{limit, Out, then, word_in, has, is_entry, is_listed, is_side, each, part, most_left, pair_size, pair_want, rule_end}
use Rattle.sheets.specs.Layout.{word_of, kind_word, pair_words, left_words, layout_lists, layout_rule}
use Rattle.sheets.specs.Reads.{slots, term_of, kind_of, term_in, left_in, pair_in, left_place, pair_place, end_of, rule_at}
use Rattle.sheets.specs.Facts.{Whole}
use Rattle.sheets.specs.Wholes.{AllPass, listed_below, pair_below, part_below}
use Rattle.rules.specs.declared.term.Term.{Term}
use Rattle.rules.specs.declared.term.Term.TheVariants.{Constant, Variable}
use Rattle.rules.specs.declared.term.Kind.{Kind}
use Rattle.rules.specs.declared.term.Kind.TheVariants.{Functional, Equality}

-- the walk comes to the end of a rule that is whole
pub then-pass : {X Y : Type 0} (o : Out X) (f : X → Out Y) (x : X) (y : Y) → o ≡ Ok x → f x ≡ Ok y → then o f ≡ Ok y
then-pass o f x y e h = rw e h

pub word_pass : (low high : ℕ) (words : List ℕ) (at : ℕ) → at < length words → low ≤ get_or words at 0 → get_or words at 0 ≤ high → word_in low high words at ≡ Ok (get_or words at 0)
word_pass low high words at l a b = rw (lt-ltb at (length words) l, le-leb low (get_or words at 0) a, le-leb (get_or words at 0) high b)

pub each-pass : (test : ℕ → Bool) (words : List ℕ) (n at : ℕ) → at + n ≤ length words → AllPass test words at (at + n) → each test words n at ≡ Ok (at + n)
each-pass test words zero at l h = ap Ok (omega arith)
each-pass test words (suc n) at l h =
    let t : at < length words = omega arith in
    let r = each-pass test words n (at + 1) (omega arith) (λ p a b. h p (omega arith) (omega arith)) in
    let e : at + 1 + n ≡ at + suc n = omega arith in
    rw (lt-ltb at (length words) t, h at (omega arith) (omega arith)) (r ∙ ap Ok e)

pub rule-pass : (words : List ℕ) (width at : ℕ) → Whole words width at → rule_end words width at ≡ Ok (end_of words width at)
unfolding left_place pair_place end_of
rule-pass words width at h =
    let w = get_or words in
    let left = at + 2 + w (at + 1) 0 * width in
    let next = left + 1 + w left 0 in
    let rows = part words (at + 2) left in
    then-pass (word_in 1 2 words at) _ (w at 0) _ (word_pass 1 2 words at (omega arith) h.some_kind h.few_kinds)
    (then-pass (word_in 1 4 words (at + 1)) _ (w (at + 1) 0) _ (word_pass 1 4 words (at + 1) (omega arith) h.some_row h.few_rows)
    (then-pass (each is_entry words (w (at + 1) 0 * width) (at + 2)) _ left _ (each-pass is_entry words (w (at + 1) 0 * width) (at + 2) (omega arith) (λ p a b. lt-ltb (w p 0) limit (h.entries p a b)))
    (then-pass (word_in 0 (most_left (w at 0)) words left) _ (w left 0) _ (word_pass 0 (most_left (w at 0)) words left (omega arith) (omega arith) h.few_left)
    (then-pass (each (is_listed rows) words (w left 0) (left + 1)) _ next _ (each-pass (is_listed rows) words (w left 0) (left + 1) (omega arith) h.lefts)
    (then-pass (word_in 0 32 words next) _ (w next 0) _ (word_pass 0 32 words next (omega arith) (omega arith) h.few_pairs)
    (each-pass (pair_want (w at 0) rows) words (w next 0 * pair_size (w at 0)) (next + 1) h.inside h.sides))))))

-- what stands at a place where a list begins
pub at_head : (words : List ℕ) (at w : ℕ) (ws : List ℕ) → drop at words ≡ w ∷ ws → (at < length words) × (get_or words at 0 ≡ w) × (drop (at + 1) words ≡ ws)
at_head words at w ws e =
    let l = length-drop at words in
    let m : length (drop at words) ≡ suc (length ws) = ap length e in
    let g : get_or words (at + 0) 0 ≡ w = sym (get_or-drop at words 0 0) ∙ ap (λ xs. get_or xs 0 0) e in
    let z : at + 0 ≡ at = omega arith in
    (omega arith, rw z at g, sym (drop-drop 1 at words) ∙ ap (drop 1) e)

pub at_front : (words : List ℕ) (at n : ℕ) (xs ys : List ℕ) → length xs ≡ n → drop at words ≡ xs ++ ys → (drop (at + n) words ≡ ys) × (take n (drop at words) ≡ xs)
at_front words at n xs ys l e = (sym (drop-drop n at words) ∙ (ap (drop n) e ∙ drop_at xs ys n l), ap (take n) e ∙ take_at xs ys n l)

-- what holds of each word of a list holds at each place where it stands
pub all_points : (P : ℕ → Type 0) (words : List ℕ) (at n : ℕ) (xs ys : List ℕ) → length xs ≡ n → drop at words ≡ xs ++ ys → AllByRecursion P xs → (p : ℕ) → at ≤ p → p < at + n → P (get_or words p 0)
all_points P words at n xs ys l e h p a b =
    let k = p - at in
    let i : k < length xs = omega arith in
    let q : at + k ≡ p = omega arith in
    let g : get_or words (at + k) 0 ≡ get_or xs k 0 = sym (get_or-drop at words k 0) ∙ (ap (λ zs. get_or zs k 0) e ∙ get_or_append_left xs ys 0 k i) in
    subst P (sym g ∙ ap (λ r. get_or words r 0) q) (All-get_or P xs k 0 i h)

pub joined_length : {X : Type 0} (g : X → List ℕ) (size : ℕ) (xs : List X) → ((x : X) → x ∈ xs → length (g x) ≡ size) → length (flat_map g xs) ≡ length xs * size
joined_length g size [] h = omega (arith, zero-mul size)
joined_length g size (x ∷ xs) h =
    omega (arith, length-append (g x) (flat_map g xs), h x (Memᴰ.head refl), joined_length g size xs (λ y m. h y (Memᴰ.tail m)), suc-mul (length xs) size)

pub all_joined : {X : Type 0} (P : ℕ → Type 0) (g : X → List ℕ) (xs : List X) → ((x : X) → x ∈ xs → AllByRecursion P (g x)) → AllByRecursion P (flat_map g xs)
all_joined P g [] h = tt
all_joined P g (x ∷ xs) h = All-append P (g x) (flat_map g xs) (h x (Memᴰ.head refl)) (all_joined P g xs (λ y m. h y (Memᴰ.tail m)))

-- slots are read as what is written in them
pub slots_read : {X : Type 0} (g : X → List ℕ) (f : ℕ → X) (size : ℕ) (words : List ℕ) (xs : List X) (at : ℕ) (rest : List ℕ) → drop at words ≡ flat_map g xs ++ rest
    → ((x : X) → x ∈ xs → length (g x) ≡ size) → ((x : X) → x ∈ xs → (p : ℕ) (ys : List ℕ) → drop p words ≡ g x ++ ys → f p ≡ x) → slots f size (length xs) at ≡ xs
slots_read g f size words [] at rest e sized reads = refl
slots_read g f size words (x ∷ xs) at rest e sized reads =
    let d = e ∙ append_assoc (g x) (flat_map g xs) rest in
    let n = (at_front words at size (g x) (flat_map g xs ++ rest) (sized x (Memᴰ.head refl)) d).0 in
    let a = reads x (Memᴰ.head refl) at (flat_map g xs ++ rest) d in
    let b = slots_read g f size words xs (at + size) rest n (λ y m. sized y (Memᴰ.tail m)) (λ y m. reads y (Memᴰ.tail m)) in
    λ i. a i ∷ b i

-- terms
pub term_word : (t : Term) → Small t → term_of (word_of t) ≡ t
term_word (Constant c) h = rw (lt-ltb c base h)
term_word (Variable v) h =
    let l : base ≤ base + v = omega arith in
    rw (le-ltb (base + v) base l) (ap Variable (omega arith))

pub term_read : (words : List ℕ) (t : Term) (p : ℕ) (ys : List ℕ) → Small t → drop p words ≡ word_of t ∷ ys → term_in words p ≡ t
term_read words t p ys h e = ap term_of (at_head words p (word_of t) ys e).1 ∙ term_word t h

entry-passes : (t : Term) → Small t → is_entry (word_of t) ≡ true
entry-passes (Constant c) h = lt-ltb c limit (omega arith)
entry-passes (Variable v) h = lt-ltb (base + v) limit (omega arith)

row_passes : (row : List Term) → ((t : Term) → t ∈ row → Small t) → AllByRecursion (λ w. is_entry w ≡ true) (map word_of row)
row_passes [] h = tt
row_passes (t ∷ ts) h = (entry-passes t (h t (Memᴰ.head refl)), row_passes ts (λ u m. h u (Memᴰ.tail m)))

row_read : (words : List ℕ) (row : List Term) (p : ℕ) (ys : List ℕ) → ((t : Term) → t ∈ row → Small t) → drop p words ≡ map word_of row ++ ys → slots (term_in words) 1 (length row) p ≡ row
row_read words [] p ys h e = refl
row_read words (t ∷ ts) p ys h e =
    let a = term_read words t p (map word_of ts ++ ys) (h t (Memᴰ.head refl)) e in
    let b = row_read words ts (p + 1) ys (λ u m. h u (Memᴰ.tail m)) (at_head words p (word_of t) (map word_of ts ++ ys) e).2 in
    λ i. a i ∷ b i

-- a variable of the pattern is among the words of the rows
has_left : (xs ys : List ℕ) (w : ℕ) → has xs w ≡ true → has (xs ++ ys) w ≡ true
has_left [] ys w h = absurd (let z : ◌≡◌ {A = ℕ} 0 1 = cc in omega arith)
has_left (x ∷ xs) ys w h =
    ⊎_elim (λ q. or_left (eqb x w) (has (xs ++ ys) w) q) (λ q. or_right (eqb x w) (has (xs ++ ys) w) (has_left xs ys w q)) (or_cases (eqb x w) (has xs w) h)

has_right : (xs ys : List ℕ) (w : ℕ) → has ys w ≡ true → has (xs ++ ys) w ≡ true
has_right [] ys w h = h
has_right (x ∷ xs) ys w h = or_right (eqb x w) (has (xs ++ ys) w) (has_right xs ys w h)

has_word : (t : Term) (row : List Term) → t ∈ row → has (map word_of row) (word_of t) ≡ true
has_word t [] m = absurd (Memᴰ.not-nil m)
has_word t (u ∷ us) m =
    ⊎_elim (λ e. or_left (eqb (word_of u) (word_of t)) (has (map word_of us) (word_of t)) (eq-eqb (word_of u) (word_of t) (ap word_of (sym e))))
    (λ n. or_right (eqb (word_of u) (word_of t)) (has (map word_of us) (word_of t)) (has_word t us n))
    (Memᴰ.cases_cons m)

has-rows : (pattern : Pattern) (row : List Term) (w : ℕ) → row ∈ pattern → has (map word_of row) w ≡ true → has (flat_map (map word_of) pattern) w ≡ true
has-rows [] row w m h = absurd (Memᴰ.not-nil m)
has-rows (x ∷ xs) row w m h =
    ⊎_elim (λ e. has_left (map word_of x) (flat_map (map word_of) xs) w (subst (λ (z : List Term). has (map word_of z) w ≡ true) e h))
    (λ n. has_right (map word_of x) (flat_map (map word_of) xs) w (has-rows xs row w n h))
    (Memᴰ.cases_cons m)

pub has-stands : (pattern : Pattern) (v : ℕ) → Stands v pattern → has (flat_map (map word_of) pattern) (base + v) ≡ true
has-stands pattern v s = has-rows pattern s.0 (base + v) s.1 (has_word (Variable v) s.0 s.2)

left_passes : (pattern : Pattern) (v : ℕ) → Stands v pattern → is_listed (flat_map (map word_of) pattern) (base + v) ≡ true
left_passes pattern v s = and_from (leb base (base + v)) _ (le-leb base (base + v) (omega arith)) (has-stands pattern v s)

side_passes : (pattern : Pattern) (t : Term) → Known pattern t → is_side (flat_map (map word_of) pattern) (word_of t) ≡ true
side_passes pattern (Constant c) k = or_left (ltb c base) _ (lt-ltb c base k)
side_passes pattern (Variable v) k = or_right (ltb (base + v) base) _ (has-stands pattern v k)

known_small : (pattern : Pattern) → ((row : List Term) → row ∈ pattern → (t : Term) → t ∈ row → Small t) → (t : Term) → Known pattern t → Small t
known_small pattern h (Constant c) k = k
known_small pattern h (Variable v) k = h k.0 k.1 (Variable v) k.2

-- by a rule's kind
kind_of-kind_word : (k : Kind) → kind_of (kind_word k) ≡ k
kind_of-kind_word Functional = refl
kind_of-kind_word Equality = refl

kind_from : (k : Kind) → 1 ≤ kind_word k
kind_from Functional = omega arith
kind_from Equality = omega arith

kind_upto : (k : Kind) → kind_word k ≤ 2
kind_upto Functional = omega arith
kind_upto Equality = omega arith

most-left : (k : Kind) (vs : List ℕ) → LeftOf k vs → length vs ≤ 32 → length vs ≤ most_left (kind_word k)
most-left Functional vs e h = h
most-left Equality vs e h = let z = ap length e in omega arith

length-pair_words : (k : Kind) (p : Term × Term) → length (pair_words k p) ≡ pair_size (kind_word k)
length-pair_words Functional p = refl
length-pair_words Equality p = refl

pair_passes : (pattern : Pattern) (k : Kind) (p : Term × Term) → PairOf k p → Known pattern p.0 × Known pattern p.1 → AllByRecursion (λ w. pair_want (kind_word k) (flat_map (map word_of) pattern) w ≡ true) (pair_words k p)
pair_passes pattern Functional p (v, e) n =
    let s = subst (λ (q : Term × Term). Known pattern q.0) e n.0 in
    let l : word_of p.0 ≡ base + v = ap (λ q. word_of q.0) e in
    (subst (λ (w : ℕ). is_listed (flat_map (map word_of) pattern) w ≡ true) (sym l) (left_passes pattern v s), tt)
pair_passes pattern Equality p f n = (side_passes pattern p.0 n.0, (side_passes pattern p.1 n.1, tt))

pair_read : (words : List ℕ) (k : Kind) (p : Term × Term) → PairOf k p → Small p.0 → Small p.1 → (at : ℕ) (ys : List ℕ) → drop at words ≡ pair_words k p ++ ys → pair_in k words at ≡ p
pair_read words Functional p (v, e) a b at ys h =
    let t = term_read words p.0 at ys a h in
    let same : p.0 ≡ p.1 = ap (λ q. q.0) e ∙ sym (ap (λ q. q.1) e) in
    λ i. (t i, (t ∙ same) i)
pair_read words Equality p f a b at ys h =
    let t = term_read words p.0 at (word_of p.1 ∷ ys) a h in
    let u = term_read words p.1 (at + 1) ys b (at_head words at (word_of p.0) (word_of p.1 ∷ ys) h).2 in
    λ i. (t i, u i)

left_read : (words : List ℕ) (v p : ℕ) (ys : List ℕ) → drop p words ≡ left_words v ++ ys → left_in words p ≡ v
left_read words v p ys e = let g = (at_head words p (base + v) ys e).1 in omega arith

-- where the parts of a rule that is written down stand
pub record Spread (words : List ℕ) (width at : ℕ) (r : Rule) (rest : List ℕ) : Type 0 where
  pub kind_at : get_or words at 0 ≡ kind_word r.kind
  pub rows_at : get_or words (at + 1) 0 ≡ length r.pattern
  pub rows_size : length (flat_map (map word_of) r.pattern) ≡ get_or words (at + 1) 0 * width
  pub words_after_rows : List ℕ
  pub rows_lay : drop (at + 2) words ≡ flat_map (map word_of) r.pattern ++ words_after_rows
  pub left_at : get_or words (left_place words width at) 0 ≡ length r.left
  pub left_size : length (flat_map left_words r.left) ≡ get_or words (left_place words width at) 0
  pub after_left : List ℕ
  pub left_lay : drop (left_place words width at + 1) words ≡ flat_map left_words r.left ++ after_left
  pub pair_count_at : get_or words (pair_place words width at) 0 ≡ length r.pairs
  pub pair_size_is : length (flat_map (pair_words r.kind) r.pairs) ≡ get_or words (pair_place words width at) 0 * pair_size (get_or words at 0)
  pub pair_lay : drop (pair_place words width at + 1) words ≡ flat_map (pair_words r.kind) r.pairs ++ rest
  pub pair_place_in : pair_place words width at < length words
  pub after : drop (end_of words width at) words ≡ rest
  pub end_at : end_of words width at ≡ at + length (layout_rule r)

pub spread : (words : List ℕ) (width at : ℕ) (r : Rule) (rest : List ℕ) → WellFormed width r → drop at words ≡ layout_rule r ++ rest → Spread words width at r rest
unfolding left_place pair_place end_of layout_rule layout_lists
spread words width at r rest well e =
    let row_list = flat_map (map word_of) r.pattern in
    let left_list = flat_map left_words r.left in
    let pair_list = flat_map (pair_words r.kind) r.pairs in
    let after_lefts = length r.pairs ∷ (pair_list ++ rest) in
    let after_rows = length r.left ∷ (left_list ++ after_lefts) in
    let rows_grouped = append_assoc row_list (length r.left ∷ (left_list ++ (length r.pairs ∷ pair_list))) rest in
    let lefts_grouped = append_assoc left_list (length r.pairs ∷ pair_list) rest in
    let laid : drop at words ≡ kind_word r.kind ∷ (length r.pattern ∷ (row_list ++ after_rows)) = cc in
    let kind_here = at_head words at (kind_word r.kind) (length r.pattern ∷ (row_list ++ after_rows)) laid in
    let rows_here = at_head words (at + 1) (length r.pattern) (row_list ++ after_rows) kind_here.2 in
    let two : at + 1 + 1 ≡ at + 2 = omega arith in
    let rows_drop : drop (at + 2) words ≡ row_list ++ after_rows = ap (λ p. drop p words) (sym two) ∙ rows_here.2 in
    let rows_joined = joined_length (map word_of) width r.pattern (λ row m. length-map row word_of ∙ well.of_width row m) in
    let rows_long : length row_list ≡ get_or words (at + 1) 0 * width = rows_joined ∙ ap (λ n. n * width) (sym rows_here.1) in
    let left = at + 2 + get_or words (at + 1) 0 * width in
    let left_drop = (at_front words (at + 2) (get_or words (at + 1) 0 * width) row_list after_rows rows_long rows_drop).0 in
    let left_here = at_head words left (length r.left) (left_list ++ after_lefts) left_drop in
    let left_joined = joined_length left_words 1 r.left (λ v m. refl) in
    let left_long : length left_list ≡ get_or words left 0 = omega (arith, left_joined, left_here.1) in
    let pair = left + 1 + get_or words left 0 in
    let pair_drop = (at_front words (left + 1) (get_or words left 0) left_list after_lefts left_long left_here.2).0 in
    let pairs_here = at_head words pair (length r.pairs) (pair_list ++ rest) pair_drop in
    let pairs_joined = joined_length (pair_words r.kind) (pair_size (kind_word r.kind)) r.pairs (λ p m. length-pair_words r.kind p) in
    let pairs_long : length pair_list ≡ get_or words pair 0 * pair_size (get_or words at 0) = pairs_joined ∙ (ap (λ n. n * pair_size (kind_word r.kind)) (sym pairs_here.1) ∙ ap (λ k. get_or words pair 0 * pair_size k) (sym kind_here.1)) in
    let rest_drop = (at_front words (pair + 1) (get_or words pair 0 * pair_size (get_or words at 0)) pair_list rest pairs_long pairs_here.2).0 in
    record {
      kind_at = kind_here.1;
      rows_at = rows_here.1;
      rows_size = rows_long;
      words_after_rows = after_rows;
      rows_lay = rows_drop;
      left_at = left_here.1;
      left_size = left_long;
      after_left = after_lefts;
      left_lay = left_here.2;
      pair_count_at = pairs_here.1;
      pair_size_is = pairs_long;
      pair_lay = pairs_here.2;
      pair_place_in = pairs_here.0;
      after = rest_drop;
      end_at = omega (arith, length-append row_list (length r.left ∷ (left_list ++ (length r.pairs ∷ pair_list))), length-append left_list (length r.pairs ∷ pair_list));
    }

module _ (words : List ℕ) (width at : ℕ) (r : Rule) (rest : List ℕ) (narrow : width ≤ 8) (well : WellFormed width r) (s : Spread words width at r rest) where
  rows-part : part words (at + 2) (left_place words width at) ≡ flat_map (map word_of) r.pattern
  unfolding left_place
  rows-part =
      let n : left_place words width at - (at + 2) ≡ get_or words (at + 1) 0 * width = omega arith in
      ap (λ k. take k (drop (at + 2) words)) n ∙ (at_front words (at + 2) (get_or words (at + 1) 0 * width) (flat_map (map word_of) r.pattern) s.words_after_rows s.rows_size s.rows_lay).1

  entries_written : (p : ℕ) → at + 2 ≤ p → p < left_place words width at → get_or words p 0 < limit
  unfolding left_place
  entries_written p a b =
      ltb-true _ _ (all_points (λ w. is_entry w ≡ true) words (at + 2) (get_or words (at + 1) 0 * width) (flat_map (map word_of) r.pattern) s.words_after_rows s.rows_size s.rows_lay
      (all_joined (λ w. is_entry w ≡ true) (map word_of) r.pattern (λ row m. row_passes row (well.small row m))) p a b)

  lefts_written : (p : ℕ) → left_place words width at + 1 ≤ p → p < pair_place words width at → is_listed (part words (at + 2) (left_place words width at)) (get_or words p 0) ≡ true
  unfolding pair_place
  lefts_written p a b =
      subst (λ (rows : List ℕ). is_listed rows (get_or words p 0) ≡ true) (sym rows-part)
      (all_points (λ w. is_listed (flat_map (map word_of) r.pattern) w ≡ true) words (left_place words width at + 1) (get_or words (left_place words width at) 0) (flat_map left_words r.left) s.after_left s.left_size s.left_lay
      (all_joined (λ w. is_listed (flat_map (map word_of) r.pattern) w ≡ true) left_words r.left (λ v m. (left_passes r.pattern v (well.left_stands v m), tt))) p a b)

  sides_written : (p : ℕ) → pair_place words width at + 1 ≤ p → p < end_of words width at → pair_want (get_or words at 0) (part words (at + 2) (left_place words width at)) (get_or words p 0) ≡ true
  unfolding end_of
  sides_written p a b =
      let rows = flat_map (map word_of) r.pattern in
      subst (λ (k : ℕ). pair_want k (part words (at + 2) (left_place words width at)) (get_or words p 0) ≡ true) (sym s.kind_at)
      (subst (λ (rows : List ℕ). pair_want (kind_word r.kind) rows (get_or words p 0) ≡ true) (sym rows-part)
      (all_points (λ w. pair_want (kind_word r.kind) rows w ≡ true) words (pair_place words width at + 1) (get_or words (pair_place words width at) 0 * pair_size (get_or words at 0)) (flat_map (pair_words r.kind) r.pairs) rest s.pair_size_is s.pair_lay
      (all_joined (λ w. pair_want (kind_word r.kind) rows w ≡ true) (pair_words r.kind) r.pairs (λ x m. pair_passes r.pattern r.kind x (well.pairs_fit x m) (well.pairs_known x m))) p a b))

  inside_written : end_of words width at ≤ length words
  unfolding end_of
  inside_written =
      omega (arith, ap length s.pair_lay, length-append (flat_map (pair_words r.kind) r.pairs) rest, length-drop (pair_place words width at + 1) words, s.pair_size_is, s.pair_place_in)

  left_is_written : left_place words width at ≡ at + 2 + get_or words (at + 1) 0 * width
  unfolding left_place
  left_is_written = refl

  pair_is_written : pair_place words width at ≡ left_place words width at + 1 + get_or words (left_place words width at) 0
  unfolding pair_place
  pair_is_written = refl

  end_is_written : end_of words width at ≡ pair_place words width at + 1 + get_or words (pair_place words width at) 0 * pair_size (get_or words at 0)
  unfolding end_of
  end_is_written = refl

  pub whole-written : Whole words width at
  whole-written =
      let rows = part words (at + 2) (left_place words width at) in
      let below = part_below words (at + 2) (left_place words width at) limit entries_written in
      let most : length r.left ≤ most_left (kind_word r.kind) = most-left r.kind r.left well.left_fits well.few_left in
      record {
        narrow = narrow;
        left_is = left_is_written;
        pair_is = pair_is_written;
        end_is = end_is_written;
        inside = inside_written;
        some_kind = rw s.kind_at (kind_from r.kind);
        few_kinds = rw s.kind_at (kind_upto r.kind);
        some_row = rw s.rows_at well.some_row;
        few_rows = rw s.rows_at well.few_rows;
        entries = entries_written;
        few_left = rw (s.left_at, s.kind_at) most;
        lefts = lefts_written;
        lefts_from = λ p a b. leb-true _ _ (and_parts (leb base (get_or words p 0)) (has rows (get_or words p 0)) (lefts_written p a b)).0;
        lefts_below = λ p a b. listed_below rows (get_or words p 0) below (lefts_written p a b);
        few_pairs = rw s.pair_count_at well.few_pairs;
        sides = sides_written;
        sides_below = λ p a b. pair_below (eqb (get_or words at 0) 1) rows (get_or words p 0) below (sides_written p a b);
      }

  pub read-written : rule_at words width at ≡ r
  read-written =
      let kind-is = ap kind_of s.kind_at ∙ kind_of-kind_word r.kind in
      let pattern_is = ap (λ n. slots (slots (term_in words) 1 width) width n (at + 2)) s.rows_at
      ∙ slots_read (map word_of) (slots (term_in words) 1 width) width words r.pattern (at + 2) s.words_after_rows s.rows_lay
      (λ row m. length-map row word_of ∙ well.of_width row m)
      (λ row m p ys e. ap (λ n. slots (term_in words) 1 n p) (sym (well.of_width row m)) ∙ row_read words row p ys (well.small row m) e) in
      let left_is = ap (λ n. slots (left_in words) 1 n (left_place words width at + 1)) s.left_at
      ∙ slots_read left_words (left_in words) 1 words r.left (left_place words width at + 1) s.after_left s.left_lay (λ v m. refl) (λ v m p ys e. left_read words v p ys e) in
      let place = pair_place words width at in
      let pairs_is = ap (λ n. slots (pair_in (kind_of (get_or words at 0)) words) (pair_size (get_or words at 0)) n (place + 1)) s.pair_count_at
      ∙ (ap (λ k. slots (pair_in (kind_of k) words) (pair_size k) (length r.pairs) (place + 1)) s.kind_at
      ∙ (ap (λ k. slots (pair_in k words) (pair_size (kind_word r.kind)) (length r.pairs) (place + 1)) (kind_of-kind_word r.kind)
      ∙ slots_read (pair_words r.kind) (pair_in r.kind words) (pair_size (kind_word r.kind)) words r.pairs (place + 1) rest s.pair_lay
      (λ x m. length-pair_words r.kind x)
      (λ x m p ys e. pair_read words r.kind x (well.pairs_fit x m) (known_small r.pattern well.small x.0 (well.pairs_known x m).0) (known_small r.pattern well.small x.1 (well.pairs_known x m).1) p ys e))) in
      λ i. record { kind = kind-is i; pattern = pattern_is i; left = left_is i; pairs = pairs_is i }
