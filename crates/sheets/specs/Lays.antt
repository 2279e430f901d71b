-- Lemmas: words that pass are a layout of what they say.
-- They stand here, and not in proofs/, because Wells needs them.
use Rattle.std.specs.Prelude.{◌≡◌, ℕ, zero, suc, ◌+◌, ◌-◌, ◌*◌, ◌<◌, ◌≤◌, Bool, true, false, cond, List, ◌∷◌, ◌++◌, map, length, drop, ◌==◌, nat_lt, slice_index, slice_index_or, refl}
use Rattle.std.proofs.Common.{sym, ◌∙◌, append_assoc, ⊎_elim, suc-mul, zero-mul}
use Rattle.std.proofs.Math.Path.{ap}
use native.Mathlib.Omega.{arith}
use Rattle.std.specs.List.{flat_map}
use Rattle.std.proofs.lemmas.List.{drop_more}
use Rattle.std.proofs.lemmas.Bool.{cases_Bool, eqb-true, eqb-false, ltb-false}
use Rattle.rules.specs.Books.{base}
use Rattle.sheets.specs.Walk.{pair_size}
use Rattle.sheets.specs.Layout.{word_of, kind_word, pair_words, left_words, layout_lists, layout_rule}
use Rattle.sheets.specs.Reads.{slots, term_of, kind_of, term_in, left_in, pair_in, left_place, pair_place, end_of, rule_at}
use Rattle.sheets.specs.Facts.{Whole}
use Rattle.sheets.specs.Slots.{slots_length}
use Rattle.rules.specs.declared.term.Kind.TheVariants.{Functional, Equality}

-- a word is that of the term that it says
pub word_term : (w : ℕ) → word_of (term_of w) ≡ w
word_term w =
    ⊎_elim (λ e. rw e) (λ e. rw e (let h = ltb-false w base e in omega arith)) (cases_Bool (nat_lt w base))

pub word_kind : (w : ℕ) → 1 ≤ w → w ≤ 2 → kind_word (kind_of w) ≡ w
word_kind w a b =
    ⊎_elim (λ e. rw e (sym (eqb-true w 1 e))) (λ e. rw e (let h = eqb-false w 1 e in omega arith)) (cases_Bool (w == 1))

pub head_at : (words : List ℕ) (p q : ℕ) → p < length words → q ≡ p + 1 → drop p words ≡ slice_index words p ∷ drop q words
head_at words p q l e = rw e (drop_more words p 0 l)

pub slots_lay : {X : Type 0} (g : X → List ℕ) (f : ℕ → X) (size : ℕ) (words : List ℕ) (n at : ℕ) → ((p : ℕ) → at ≤ p → p + size ≤ at + n * size → drop p words ≡ g (f p) ++ drop (p + size) words) → drop at words ≡ flat_map g (slots f size n at) ++ drop (at + n * size) words
slots_lay g f size words zero at h = let e : at ≡ at + 0 * size = omega (arith, zero-mul size) in ap (λ p. drop p words) e
slots_lay g f size words (suc n) at h =
    let m = suc-mul n size in
    let e : at + size + n * size ≡ at + suc n * size = omega arith in
    let r = slots_lay g f size words n (at + size) (λ p a b. h p (omega arith) (omega arith)) in
    h at (omega arith) (omega arith) ∙ (ap (λ xs. g (f at) ++ xs) (r ∙ ap (λ p. flat_map g (slots f size n (at + size)) ++ drop p words) e) ∙ sym (append_assoc (g (f at)) (flat_map g (slots f size n (at + size))) (drop (at + suc n * size) words)))

pub row_lay : (words : List ℕ) (n at : ℕ) → at + n ≤ length words → drop at words ≡ map word_of (slots (term_in words) 1 n at) ++ drop (at + n) words
row_lay words zero at l = let e : at ≡ at + 0 = omega arith in ap (λ p. drop p words) e
row_lay words (suc n) at l =
    let e : at + 1 + n ≡ at + suc n = omega arith in
    let r = row_lay words n (at + 1) (omega arith) in
    head_at words at (at + 1) (omega arith) refl ∙ rw (word_term (slice_index words at)) (ap (λ xs. slice_index words at ∷ xs) (r ∙ ap (λ p. map word_of (slots (term_in words) 1 n (at + 1)) ++ drop p words) e))

pub left_lay : (words : List ℕ) (p : ℕ) → p < length words → base ≤ slice_index words p → drop p words ≡ left_words (left_in words p) ++ drop (p + 1) words
left_lay words p l b =
    let e : slice_index_or words p 0 ≡ base + (slice_index words p - base) = omega arith in
    head_at words p (p + 1) l refl ∙ ap (λ w. w ∷ drop (p + 1) words) e

pub pair_lay : (words : List ℕ) (b : Bool) (p : ℕ) → p + cond b 1 2 ≤ length words → drop p words ≡ pair_words (cond b Functional Equality) (pair_in (cond b Functional Equality) words p) ++ drop (p + cond b 1 2) words
pair_lay words true p l = rw (word_term (slice_index words p)) (head_at words p (p + 1) (omega arith) refl)
pair_lay words false p l =
    rw (word_term (slice_index words p), word_term (slice_index words (p + 1)))
    (head_at words p (p + 1) (omega arith) refl ∙ ap (λ xs. slice_index words p ∷ xs) (head_at words (p + 1) (p + 2) (omega arith) (omega arith)))

chain : (w0 w1 w2 w3 w4 w5 w6 rest rows left pairs : List ℕ) (k n l m : ℕ)
    → w0 ≡ k ∷ w1 → w1 ≡ n ∷ w2 → w2 ≡ rows ++ w3 → w3 ≡ l ∷ w4 → w4 ≡ left ++ w5 → w5 ≡ m ∷ w6 → w6 ≡ pairs ++ rest
    → w0 ≡ (k ∷ (n ∷ (rows ++ (l ∷ (left ++ (m ∷ pairs)))))) ++ rest
chain w0 w1 w2 w3 w4 w5 w6 rest rows left pairs k n l m a b c d e f g =
    let x = append_assoc rows (l ∷ (left ++ (m ∷ pairs))) rest in
    let y = append_assoc left (m ∷ pairs) rest in
    cc

module _ (words : List ℕ) (width at : ℕ) (h : Whole words width at) where
  pub pattern_lay : drop (at + 2) words ≡ flat_map (map word_of) (rule_at words width at).pattern ++ drop (left_place words width at) words
  pattern_lay =
      let r = slots_lay (map word_of) (slots (term_in words) 1 width) width words (slice_index words (at + 1)) (at + 2)
      (λ p a b. row_lay words width p (omega arith)) in
      rw h.left_is r

  pub rule_lay : drop at words ≡ layout_rule (rule_at words width at) ++ drop (end_of words width at) words
  unfolding layout_rule layout_lists
  rule_lay =
      let left = left_place words width at in
      let pair = pair_place words width at in
      let size = pair_size (slice_index words at) in
      let vs = slots_lay left_words (left_in words) 1 words (slice_index words left) (left + 1) (λ p a b. left_lay words p (omega arith) (h.lefts_from p a (omega arith))) in
      let vs_end : left + 1 + slice_index words left * 1 ≡ pair = omega arith in
      let ps = slots_lay (pair_words (kind_of (slice_index words at))) (pair_in (kind_of (slice_index words at)) words) size words (slice_index words pair) (pair + 1) (λ p a b. pair_lay words (slice_index words at == 1) p (omega arith)) in
      let pattern_many = slots_length (slots (term_in words) 1 width) width (slice_index words (at + 1)) (at + 2) in
      let left_many = slots_length (left_in words) 1 (slice_index words left) (left + 1) in
      let pairs_many = slots_length (pair_in (kind_of (slice_index words at)) words) size (slice_index words pair) (pair + 1) in
      rw (pattern_many, left_many, pairs_many, word_kind (slice_index words at) h.some_kind h.few_kinds)
      (chain (drop at words) (drop (at + 1) words) (drop (at + 2) words) (drop left words) (drop (left + 1) words) (drop pair words) (drop (pair + 1) words) (drop (end_of words width at) words)
      _ _ _ _ _ _ _
      (head_at words at (at + 1) (omega arith) refl)
      (head_at words (at + 1) (at + 2) (omega arith) (omega arith))
      pattern_lay
      (head_at words left (left + 1) (omega arith) refl)
      (vs ∙ ap (λ p. flat_map left_words (rule_at words width at).left ++ drop p words) vs_end)
      (head_at words pair (pair + 1) (omega arith) refl)
      (ps ∙ ap (λ p. flat_map (pair_words (kind_of (slice_index words at))) (rule_at words width at).pairs ++ drop p words) (sym h.end_is)))
