-- Lemmas: what the words of a sheet say is well formed.
-- The last of them is what a sheet gives for the well-formedness that the trait Book asks of it.
use Rattle.std.specs.Prelude.{◌≡◌, ℕ, zero, suc, ◌+◌, ◌-◌, ◌*◌, ◌<◌, ◌≤◌, Bool, true, false, cond, ◌⊎◌, List, [], ◌∷◌, ◌++◌, map, length, drop, Ok, Err, ◌==◌, nat_le, nat_lt, slice_index, slice_index_or, refl}
use Rattle.std.proofs.Common.{sym, ap, subst, ◌∙◌, inl, inr, ⊎_elim, arith, suc-mul}
use mathlib.Core.List.Memᴰ
use mathlib.Core.List.{Memᴰ}
use Rattle.std.specs.List.{flat_map}
use Rattle.std.proofs.lemmas.List.{take_at, length-append, length-drop}
use Rattle.std.proofs.lemmas.Bool.{cases_Bool, eqb-true, ltb-true, ltb-false, leb-true, and_parts, or_cases, or_right, le-ltb}
use Rattle.rules.specs.Rules.{Rule, Pattern, ◌∈◌}
use Rattle.rules.specs.Books.{base, Small, Stands, Known, PairOf, LeftOf, WellFormed, WellFormedBook}
use Rattle.sheets.specs.Walk.{limit, Out, has, is_listed, is_side, part, pair_size, pair_want, rule_end, rules_end, sheet_end}
use Rattle.sheets.specs.Layout.{word_of}
use Rattle.sheets.specs.Reads.{slots, term_of, kind_of, term_in, left_in, pair_in, left_place, pair_place, end_of, rule_at, rules_at, meaning_by, sheet_meaning}
use Rattle.sheets.specs.Facts.{Whole}
use Rattle.sheets.specs.Slots.{slots_length}
use Rattle.sheets.specs.Wholes.{whole_from, then_ok, word_ok}
use Rattle.sheets.specs.Lays.{pattern_lay}
use Rattle.rules.specs.declared.term.Term.{Term}
use Rattle.rules.specs.declared.term.Term.TheVariants.{Constant, Variable}
use Rattle.rules.specs.declared.term.Kind.TheVariants.{Functional, Equality}

-- an element of what stands in slots stands in one of them
pub mem_slots : {X : Type 0} (f : ℕ → X) (size n at : ℕ) (x : X) → x ∈ slots f size n at → (p : ℕ) × (at ≤ p) × (p + size ≤ at + n * size) × (x ≡ f p)
mem_slots f size zero at x m = absurd (Memᴰ.not-nil m)
mem_slots f size (suc n) at x m =
    let s = suc-mul n size in
    ⊎_elim (λ e. (at, omega arith, omega arith, e))
    (λ t. let r = mem_slots f size n (at + size) x t in (r.0, omega arith, omega arith, r.3))
    (Memᴰ.cases_cons m)

-- a word among those of the rows is that of a term that stands there
pub has_row : (ts : List Term) (more : List ℕ) (w : ℕ) → has (map word_of ts ++ more) w ≡ true → ((t : Term) × (t ∈ ts) × (word_of t ≡ w)) ⊎ (has more w ≡ true)
has_row [] more w e = inr e
has_row (t ∷ ts) more w e =
    ⊎_elim (λ q. inl (t, Memᴰ.head refl, eqb-true (word_of t) w q))
    (λ q. ⊎_elim (λ r. inl (r.0, Memᴰ.tail r.1, r.2)) inr (has_row ts more w q))
    (or_cases (word_of t == w) (has (map word_of ts ++ more) w) e)

pub has_term : (pattern : Pattern) (w : ℕ) → has (flat_map (map word_of) pattern) w ≡ true → (row : List Term) × (row ∈ pattern) × (t : Term) × (t ∈ row) × (word_of t ≡ w)
has_term [] w e = absurd (let z : ◌≡◌ {A = ℕ} 0 1 = cc in omega arith)
has_term (row ∷ rows) w e =
    ⊎_elim (λ q. (row, Memᴰ.head refl, q.0, q.1, q.2))
    (λ q. let r = has_term rows w q in (r.0, Memᴰ.tail r.1, r.2, r.3, r.4))
    (has_row row (flat_map (map word_of) rows) w e)

variable_is : (t : Term) (w : ℕ) → Small t → word_of t ≡ w → base ≤ w → t ≡ Variable (w - base)
variable_is (Constant c) w s e h = absurd (omega arith)
variable_is (Variable v) w s e h = ap Variable (omega arith)

moved : {X : Type 0} (x y : X) (xs : List X) → x ≡ y → x ∈ xs → y ∈ xs
moved x y xs e m = subst (λ (z : _). z ∈ xs) e m

abbrev pub AllSmall : Pattern → Type 0
AllSmall pattern = (row : List Term) → row ∈ pattern → (t : Term) → t ∈ row → Small t

pub stands_from : (pattern : Pattern) (w : ℕ) → AllSmall pattern → base ≤ w → has (flat_map (map word_of) pattern) w ≡ true → Stands (w - base) pattern
stands_from pattern w small h e =
    let r = has_term pattern w e in
    (r.0, r.1, moved r.2 (Variable (w - base)) r.0 (variable_is r.2 w (small r.0 r.1 r.2 r.3) r.4 h) r.3)

pub small_term : (w : ℕ) → w < limit → Small (term_of w)
small_term w h =
    ⊎_elim (λ e. rw e (ltb-true w base e)) (λ e. rw e (let g = ltb-false w base e in omega arith)) (cases_Bool (nat_lt w base))

pub known_from : (pattern : Pattern) (w : ℕ) → AllSmall pattern → is_side (flat_map (map word_of) pattern) w ≡ true → Known pattern (term_of w)
known_from pattern w small h =
    ⊎_elim (λ e. rw e (ltb-true w base e))
    (λ e. rw e (stands_from pattern w small (ltb-false w base e) (rw e at h)))
    (cases_Bool (nat_lt w base))

-- what each way of reading pairs gives, by the kind's test
pairs_known_by : (pattern : Pattern) (words : List ℕ) (b : Bool) (p : ℕ) → AllSmall pattern
    → ((q : ℕ) → p ≤ q → q < p + cond b 1 2 → cond b (is_listed (flat_map (map word_of) pattern)) (is_side (flat_map (map word_of) pattern)) (slice_index words q) ≡ true)
    → Known pattern (pair_in (cond b Functional Equality) words p).0 × Known pattern (pair_in (cond b Functional Equality) words p).1
pairs_known_by pattern words true p small h =
    let a = (and_parts (nat_le base (slice_index words p)) (has (flat_map (map word_of) pattern) (slice_index words p)) (h p (omega arith) (omega arith))).1 in
    let k = known_from pattern (slice_index words p) small (or_right (nat_lt (slice_index words p) base) _ a) in
    (k, k)
pairs_known_by pattern words false p small h =
    (known_from pattern (slice_index words p) small (h p (omega arith) (omega arith)), known_from pattern (slice_index words (p + 1)) small (h (p + 1) (omega arith) (omega arith)))

pairs_fit_by : (rows words : List ℕ) (b : Bool) (p : ℕ)
    → ((q : ℕ) → p ≤ q → q < p + cond b 1 2 → cond b (is_listed rows) (is_side rows) (slice_index words q) ≡ true)
    → PairOf (cond b Functional Equality) (pair_in (cond b Functional Equality) words p)
pairs_fit_by rows words true p h =
    let a = leb-true _ _ (and_parts (nat_le base (slice_index words p)) (has rows (slice_index words p)) (h p (omega arith) (omega arith))).0 in
    (slice_index words p - base, rw (le-ltb (slice_index words p) base a))
pairs_fit_by rows words false p h = tt

left_fits_by : (b : Bool) (f : ℕ → ℕ) (n at : ℕ) → n ≤ cond b 32 0 → LeftOf (cond b Functional Equality) (slots f 1 n at)
left_fits_by true f n at h = tt
left_fits_by false f zero at h = refl
left_fits_by false f (suc n) at h = absurd (omega arith)

few_by : (b : Bool) (n : ℕ) → n ≤ cond b 32 0 → n ≤ 32
few_by true n h = h
few_by false n h = omega arith

module _ (words : List ℕ) (width at : ℕ) (h : Whole words width at) where
  pub rows_are : part words (at + 2) (left_place words width at) ≡ flat_map (map word_of) (rule_at words width at).pattern
  rows_are =
      let e = pattern_lay words width at h in
      let rows = flat_map (map word_of) (rule_at words width at).pattern in
      let rest = drop (left_place words width at) words in
      let l : length rows ≡ left_place words width at - (at + 2) =
      omega (arith, ap length e, length-append rows rest, length-drop (at + 2) words, length-drop (left_place words width at) words) in
      rw e (take_at rows rest (left_place words width at - (at + 2)) l)

  all_small : AllSmall (rule_at words width at).pattern
  all_small row m t k =
      let r = mem_slots (slots (term_in words) 1 width) width (slice_index words (at + 1)) (at + 2) row m in
      let k' = subst (λ (z : List Term). t ∈ z) r.3 k in
      let s = mem_slots (term_in words) 1 width r.0 t k' in
      let q = s.0 in
      subst Small (sym s.3) (small_term (slice_index words q) (h.entries q (omega arith) (omega arith)))

  pub rule_well : WellFormed width (rule_at words width at)
  rule_well =
      let left = left_place words width at in
      let pair = pair_place words width at in
      let kind = slice_index_or words at 0 in
      let pattern_many = slots_length (slots (term_in words) 1 width) width (slice_index words (at + 1)) (at + 2) in
      let left_many = slots_length (left_in words) 1 (slice_index words left) (left + 1) in
      let pairs_many = slots_length (pair_in (kind_of kind) words) (pair_size kind) (slice_index words pair) (pair + 1) in
      let side : (p : ℕ) → pair + 1 ≤ p → p < end_of words width at → pair_want kind (flat_map (map word_of) (rule_at words width at).pattern) (slice_index words p) ≡ true
      = λ p a b. subst (λ (rows : List ℕ). pair_want kind rows (slice_index words p) ≡ true) rows_are (h.sides p a b) in
      record {
        some_row = rw pattern_many h.some_row;
        few_rows = rw pattern_many h.few_rows;
        of_width = λ row m.
            (let r = mem_slots (slots (term_in words) 1 width) width (slice_index words (at + 1)) (at + 2) row m in
            ap length r.3 ∙ slots_length (term_in words) 1 width r.0);
        small = all_small;
        few_left = rw left_many (few_by (kind == 1) (slice_index words left) h.few_left);
        left_fits = left_fits_by (kind == 1) (left_in words) (slice_index words left) (left + 1) h.few_left;
        left_stands = λ v m.
            (let r = mem_slots (left_in words) 1 (slice_index words left) (left + 1) v m in
            let p = r.0 in
            let a = and_parts (nat_le base (slice_index words p)) (has (part words (at + 2) left) (slice_index words p)) (h.lefts p (omega arith) (omega arith)) in
            let b = subst (λ (rows : List ℕ). has rows (slice_index words p) ≡ true) rows_are a.1 in
            subst (λ (u : ℕ). Stands u (rule_at words width at).pattern) (sym r.3) (stands_from (rule_at words width at).pattern (slice_index words p) all_small (leb-true _ _ a.0) b));
        few_pairs = rw pairs_many h.few_pairs;
        pairs_known = λ x m.
            (let r = mem_slots (pair_in (kind_of kind) words) (pair_size kind) (slice_index words pair) (pair + 1) x m in
            let p = r.0 in
            subst (λ (y : Term × Term). Known (rule_at words width at).pattern y.0 × Known (rule_at words width at).pattern y.1) (sym r.3)
            (pairs_known_by (rule_at words width at).pattern words (kind == 1) p all_small (λ q a b. side q (omega arith) (omega arith))));
        pairs_fit = λ x m.
            (let r = mem_slots (pair_in (kind_of kind) words) (pair_size kind) (slice_index words pair) (pair + 1) x m in
            let p = r.0 in
            subst (PairOf (kind_of kind)) (sym r.3)
            (pairs_fit_by (flat_map (map word_of) (rule_at words width at).pattern) words (kind == 1) p (λ q a b. side q (omega arith) (omega arith))));
      }

module _ (words : List ℕ) (width : ℕ) (narrow : width ≤ 8) where
  pub rules_well : (n at e : ℕ) → rules_end words width n at ≡ Ok e → (r : Rule) → r ∈ rules_at words width n at → WellFormed width r
  rules_well zero at e h r m = absurd (Memᴰ.not-nil m)
  rules_well (suc n) at e h r m =
      let t = then_ok (rule_end words width at) (λ next. rules_end words width n next) e h in
      let w = whole_from words width at t.0 narrow t.1 in
      ⊎_elim (λ q. subst (WellFormed width) (sym q) (rule_well words width at w.1))
      (λ q. rules_well n (end_of words width at) e (subst (λ (x : ℕ). rules_end words width n x ≡ Ok e) w.0 t.2) r q)
      (Memᴰ.cases_cons m)

pub rules_length : (words : List ℕ) (width n at : ℕ) → length (rules_at words width n at) ≡ n
rules_length words width zero at = refl
rules_length words width (suc n) at = ap suc (rules_length words width n (end_of words width at))

well_by : (words : List ℕ) (o : Out ℕ) → sheet_end words ≡ o → WellFormedBook (meaning_by words o)
well_by words (Ok e) h =
    let w = word_ok 1 8 words 0 _ e h in
    let n = word_ok 0 256 words 1 _ e w.3 in
    record {
      some_width = w.1;
      small_width = w.2;
      few = rw (rules_length words (slice_index words 0) (slice_index words 1) 2) (omega arith);
      rules_fit = rules_well words (slice_index words 0) w.2 (slice_index words 1) 2 e n.3;
    }
well_by words (Err f) h = record {
  some_width = omega arith;
  small_width = omega arith;
  few = omega arith;
  rules_fit = λ r m. absurd (Memᴰ.not-nil m);
}

-- every list of words, opened as a sheet, is a well-formed book
pub sheet_well : (words : List ℕ) → WellFormedBook (sheet_meaning words)
unfolding sheet_meaning
sheet_well words = well_by words (sheet_end words) refl
