-- The walk looks at no word past the place of its fault.
use Rattle.std.proofs.Common.{◌≡◌, ℕ, zero, suc, ◌+◌, ◌-◌, ◌*◌, ◌<◌, ◌≤◌, Bool, true, false, cond, ◌&&◌, ltb, leb, ◌⊎◌, List, length, get_or, take, drop, Ok, Err, sym, refl, ap, ◌∙◌, subst, inl, inr, ⊎_elim, arith, length-take}
use Rattle.std.proofs.lemmas.List.{get_or-take, take-take, drop-take, length-take-le}
use Rattle.std.proofs.lemmas.Bool.{lt-ltb, le-ltb, ltb-true, cases_Bool, and_parts, and_right}
use Rattle.sheets.specs.Walk.{Out, then, word_in, is_entry, is_listed, each, part, most_left, pair_size, pair_want, lists_end, rule_end, rules_end, sheet_end}
use Rattle.rules.specs.declared.fault.BookFault.{BookFault}

then-cond : (b : Bool) (w : ℕ) (g : BookFault) (f : ℕ → Out ℕ) → then (cond b (Ok w) (Err g)) f ≡ cond b (f w) (Err g)
then-cond true w g f = refl
then-cond false w g f = refl

-- the pairs of a rule
abbrev pairs_end : List ℕ → List ℕ → ℕ → ℕ → Out ℕ
pairs_end words rows kind at = then (word_in 0 32 words at) (λ pairs. each (pair_want kind rows) words (pairs * pair_size kind) (at + 1))

-- a walk from a place ends past it, or has its fault there or past it, within the words
module _ (words : List ℕ) where
  abbrev pub Ends : ℕ → Out ℕ → Type 0
  Ends at (Ok e) = (at ≤ e) × (e ≤ length words)
  Ends at (Err f) = (at ≤ f.place) × (f.place ≤ length words)

  ends_weaker : (a b : ℕ) (o : Out ℕ) → a ≤ b → Ends b o → Ends a o
  ends_weaker a b (Ok e) l h = (omega arith, h.1)
  ends_weaker a b (Err f) l h = (omega arith, h.1)

  ends_cond : (b : Bool) (at : ℕ) (o : Out ℕ) → at ≤ length words → (b ≡ true → Ends (at + 1) o) → Ends at (cond b o (Err (record { place = at })))
  ends_cond true at o l h = ends_weaker at (at + 1) o (omega arith) (h refl)
  ends_cond false at o l h = (omega arith, l)

  ends_then : (at : ℕ) (o : Out ℕ) (f : ℕ → Out ℕ) → Ends at o → ((e : ℕ) → e ≤ length words → Ends e (f e)) → Ends at (then o f)
  ends_then at (Ok e) f h g = ends_weaker at e (f e) h.0 (g e h.1)
  ends_then at (Err x) f h g = h

  ends_word : (low high at : ℕ) (f : ℕ → Out ℕ) → at ≤ length words → ((w : ℕ) → at + 1 ≤ length words → Ends (at + 1) (f w)) → Ends at (then (word_in low high words at) f)
  ends_word low high at f l h =
      let w = get_or words at 0 in
      let b = ltb at (length words) && (leb low w && leb w high) in
      subst (Ends at) (sym (then-cond b w (record { place = at }) f))
      (ends_cond b at (f w) l (λ e. h w (let t = ltb-true _ _ (and_parts (ltb at (length words)) (leb low w && leb w high) e).0 in omega arith)))

  ends_each : (test : ℕ → Bool) (n at : ℕ) → at ≤ length words → Ends at (each test words n at)
  ends_each test zero at l = (omega arith, l)
  ends_each test (suc n) at l =
      ends_cond (ltb at (length words) && test (get_or words at 0)) at (each test words n (at + 1)) l
      (λ e. let t = ltb-true _ _ (and_parts (ltb at (length words)) (test (get_or words at 0)) e).0 in ends_each test n (at + 1) (omega arith))

  ends_pairs : (rows : List ℕ) (kind at : ℕ) → at ≤ length words → Ends at (pairs_end words rows kind at)
  ends_pairs rows kind at l = ends_word 0 32 at _ l (λ pairs c. ends_each (pair_want kind rows) (pairs * pair_size kind) (at + 1) c)

  ends_left : (rows : List ℕ) (kind lefts at : ℕ) → at ≤ length words → Ends at (then (each (is_listed rows) words lefts at) (λ next. pairs_end words rows kind next))
  ends_left rows kind lefts at l = ends_then at (each (is_listed rows) words lefts at) _ (ends_each (is_listed rows) lefts at l) (λ next b. ends_pairs rows kind next b)

  ends_lists : (rows : List ℕ) (kind at : ℕ) → at ≤ length words → Ends at (lists_end words rows kind at)
  ends_lists rows kind at l = ends_word 0 (most_left kind) at _ l (λ lefts a. ends_left rows kind lefts (at + 1) a)

  ends_rows : (width kind rows at : ℕ) → at + 2 ≤ length words → Ends (at + 1 + 1) (then (each is_entry words (rows * width) (at + 2)) (λ next. lists_end words (part words (at + 2) next) kind next))
  ends_rows width kind rows at l =
      ends_weaker (at + 1 + 1) (at + 2) _ (omega arith)
      (ends_then (at + 2) (each is_entry words (rows * width) (at + 2)) _ (ends_each is_entry (rows * width) (at + 2) l) (λ next c. ends_lists (part words (at + 2) next) kind next c))

  ends_body : (width kind at : ℕ) → at + 1 ≤ length words → Ends (at + 1) (then (word_in 1 4 words (at + 1)) (λ rows. then (each is_entry words (rows * width) (at + 2)) (λ next. lists_end words (part words (at + 2) next) kind next)))
  ends_body width kind at l = ends_word 1 4 (at + 1) _ l (λ rows b. ends_rows width kind rows at (omega arith))

  ends_rule : (width at : ℕ) → at ≤ length words → Ends at (rule_end words width at)
  ends_rule width at l = ends_word 1 2 at _ l (λ kind a. ends_body width kind at a)

  ends_rules : (width n at : ℕ) → at ≤ length words → Ends at (rules_end words width n at)
  ends_rules width zero at l = (omega arith, l)
  ends_rules width (suc n) at l = ends_then at (rule_end words width at) _ (ends_rule width at l) (λ e b. ends_rules width n e b)

  ends_count : (width : ℕ) → 1 ≤ length words → Ends 1 (then (word_in 0 256 words 1) (λ count. rules_end words width count 2))
  ends_count width l = ends_word 0 256 1 _ l (λ count b. ends_weaker (1 + 1) 2 _ (omega arith) (ends_rules width count 2 b))

  ends_sheet : Ends 0 (sheet_end words)
  ends_sheet = ends_word 1 8 0 _ (omega arith) (λ width a. ends_count width a)

-- two lists alike before a place, where the second ends or goes on as the first
module _ (words other : List ℕ) (p : ℕ) (same : take p other ≡ take p words) (short : p ≤ length other) (stop : (length other ≤ p) ⊎ ((p < length words) × (get_or other p 0 ≡ get_or words p 0))) (within : p ≤ length words) where
  -- the second walk does as the first, as far as the place
  abbrev pub Alike : Out ℕ → Out ℕ → Type 0
  Alike (Ok e) o = e ≤ p → o ≡ Ok e
  Alike (Err f) o = f.place ≡ p → o ≡ Err f

  value_same : (k : ℕ) → k < p → get_or other k 0 ≡ get_or words k 0
  value_same k h = sym (get_or-take p other k 0 h) ∙ (ap (λ xs. get_or xs k 0) same ∙ get_or-take p words k 0 h)

  part_same : (from to : ℕ) → from ≤ to → to ≤ p → part other from to ≡ part words from to
  part_same from to l h =
      let n : from + (to - from) ≡ to = omega arith in
      let m : from + (to - from) ≤ p = omega arith in
      let a = sym (drop-take from (to - from) other) in
      let b = sym (drop-take from (to - from) words) in
      let c : take (from + (to - from)) other ≡ take (from + (to - from)) words = sym (take-take (from + (to - from)) p other m) ∙ (ap (take (from + (to - from))) same ∙ take-take (from + (to - from)) p words m) in
      a ∙ (ap (drop from) c ∙ sym b)

  -- where the first test passes, and what follows ends before or at the place, the second passes too
  alike_passed : (t : ℕ → Bool) (at : ℕ) (a b : Out ℕ) → at < p → (ltb at (length words) && t (get_or words at 0)) ≡ true → cond (ltb at (length other) && t (get_or other at 0)) b (Err (record { place = at })) ≡ b
  alike_passed t at a b l e =
      let u = (and_parts (ltb at (length words)) (t (get_or words at 0)) e).1 in
      let i : at < length other = omega arith in
      rw (lt-ltb at (length other) i, value_same at l, u)

  alike_cond : (t : ℕ → Bool) (at : ℕ) (a b : Out ℕ) → (at < length words → Ends words (at + 1) a) → (at < p → Alike a b)
      → Alike (cond (ltb at (length words) && t (get_or words at 0)) a (Err (record { place = at }))) (cond (ltb at (length other) && t (get_or other at 0)) b (Err (record { place = at })))
  alike_cond t at a b ends h =
      ⊎_elim (λ e. rw e (passed a e (ends (ltb-true _ _ (and_parts (ltb at (length words)) (t (get_or words at 0)) e).0)) h)) (λ e. rw e (λ (q : at ≡ p). failed q e)) (cases_Bool (ltb at (length words) && t (get_or words at 0)))
    where
      passed : (x : Out ℕ) → (ltb at (length words) && t (get_or words at 0)) ≡ true → Ends words (at + 1) x → (at < p → Alike x b) → Alike x (cond (ltb at (length other) && t (get_or other at 0)) b (Err (record { place = at })))
      passed (Ok e) c n k = λ q. let l : at < p = omega arith in alike_passed t at (Ok e) b l c ∙ k l q
      passed (Err f) c n k = λ q. let l : at < p = omega arith in alike_passed t at (Err f) b l c ∙ k l q

      failed : at ≡ p → (ltb at (length words) && t (get_or words at 0)) ≡ false → cond (ltb at (length other) && t (get_or other at 0)) b (Err (record { place = at })) ≡ Err (record { place = at })
      failed q c =
          ⊎_elim (λ s. let i : length other ≤ at = omega arith in rw (le-ltb at (length other) i))
          (λ s.
          let i : at < length words = omega (arith, s.0) in
          let v : get_or other at 0 ≡ get_or words at 0 = ap (λ k. get_or other k 0) q ∙ (s.1 ∙ ap (λ k. get_or words k 0) (sym q)) in
          let u : t (get_or words at 0) ≡ false = rw (lt-ltb at (length words) i) at c in
          rw (v, u, and_right (ltb at (length other)) false refl))
          stop

  alike_then : (at : ℕ) (o o' : Out ℕ) (f f' : ℕ → Out ℕ) → Ends words at o → Alike o o' → ((e : ℕ) → e ≤ length words → Ends words e (f e)) → ((e : ℕ) → at ≤ e → e ≤ p → Alike (f e) (f' e)) → Alike (then o f) (then o' f')
  alike_then at (Err g) o' f f' in' h ends k = λ q. rw (h q)
  alike_then at (Ok e) o' f f' in' h ends k = past (f e) (ends e in'.1) (k e in'.0)
    where
      past : (x : Out ℕ) → Ends words e x → (e ≤ p → Alike x (f' e)) → Alike x (then o' f')
      past (Ok y) n l = λ q. let i : e ≤ p = omega arith in rw (h i) (l i q)
      past (Err y) n l = λ q. let i : e ≤ p = omega arith in rw (h i) (l i q)

  alike_word : (low high at : ℕ) (f f' : ℕ → Out ℕ) → ((w : ℕ) → at + 1 ≤ length words → Ends words (at + 1) (f w)) → ((w : ℕ) → at < p → Alike (f w) (f' w)) → Alike (then (word_in low high words at) f) (then (word_in low high other at) f')
  alike_word low high at f f' ends h =
      let w = get_or words at 0 in
      let v = get_or other at 0 in
      let a = sym (then-cond (ltb at (length words) && (leb low w && leb w high)) w (record { place = at }) f) in
      let b = sym (then-cond (ltb at (length other) && (leb low v && leb v high)) v (record { place = at }) f') in
      subst (λ (x : Out ℕ). Alike x (then (word_in low high other at) f')) a
      (subst (λ (y : Out ℕ). Alike (cond (ltb at (length words) && (leb low w && leb w high)) (f w) (Err (record { place = at }))) y) b
      (alike_cond (λ x. leb low x && leb x high) at (f w) (f' v) (λ l. ends w (omega arith)) (λ l. subst (λ (x : ℕ). Alike (f w) (f' x)) (sym (value_same at l)) (h w l))))

  alike_each : (test : ℕ → Bool) (n at : ℕ) → Alike (each test words n at) (each test other n at)
  alike_each test zero at = λ q. refl
  alike_each test (suc n) at =
      alike_cond test at (each test words n (at + 1)) (each test other n (at + 1)) (λ l. ends_each words test n (at + 1) (omega arith)) (λ l. alike_each test n (at + 1))

  alike_pairs : (rows : List ℕ) (kind at : ℕ) → Alike (pairs_end words rows kind at) (pairs_end other rows kind at)
  alike_pairs rows kind at =
      alike_word 0 32 at _ _ (λ pairs c. ends_each words (pair_want kind rows) (pairs * pair_size kind) (at + 1) c) (λ pairs c. alike_each (pair_want kind rows) (pairs * pair_size kind) (at + 1))

  alike_lists : (rows : List ℕ) (kind at : ℕ) → Alike (lists_end words rows kind at) (lists_end other rows kind at)
  alike_lists rows kind at =
      alike_word 0 (most_left kind) at _ _ (λ lefts a. ends_left words rows kind lefts (at + 1) a)
      (λ lefts a. alike_then (at + 1) (each (is_listed rows) words lefts (at + 1)) (each (is_listed rows) other lefts (at + 1)) _ _ (ends_each words (is_listed rows) lefts (at + 1) (omega arith)) (alike_each (is_listed rows) lefts (at + 1)) (λ next b. ends_pairs words rows kind next b)
      (λ next b c. alike_pairs rows kind next))

  alike_rule : (width at : ℕ) → Alike (rule_end words width at) (rule_end other width at)
  alike_rule width at =
      alike_word 1 2 at _ _ (λ kind a. ends_body words width kind at a) (λ kind a.
      alike_word 1 4 (at + 1) _ _ (λ rows b. ends_rows words width kind rows at (omega arith)) (λ rows b.
      alike_then (at + 2) (each is_entry words (rows * width) (at + 2)) (each is_entry other (rows * width) (at + 2)) _ _ (ends_each words is_entry (rows * width) (at + 2) (omega arith)) (alike_each is_entry (rows * width) (at + 2)) (λ next c. ends_lists words (part words (at + 2) next) kind next c)
      (λ next c d. subst (λ (x : List ℕ). Alike (lists_end words (part words (at + 2) next) kind next) (lists_end other x kind next)) (sym (part_same (at + 2) next c d)) (alike_lists (part words (at + 2) next) kind next))))

  alike_rules : (width n at : ℕ) → at ≤ length words → Alike (rules_end words width n at) (rules_end other width n at)
  alike_rules width zero at l = λ q. refl
  alike_rules width (suc n) at l =
      alike_then at (rule_end words width at) (rule_end other width at) _ _ (ends_rule words width at l) (alike_rule width at) (λ e b. ends_rules words width n e b) (λ e b c. alike_rules width n e (omega arith))

  pub alike_sheet : Alike (sheet_end words) (sheet_end other)
  alike_sheet =
      alike_word 1 8 0 _ _ (λ width a. ends_count words width a) (λ width a.
      alike_word 0 256 1 _ _ (λ count b. ends_weaker words (1 + 1) 2 _ (omega arith) (ends_rules words width count 2 b)) (λ count b. alike_rules width count 2 (omega arith)))

-- the place of a fault is the first: it is inside, the words before it have no fault but that they end there, and
-- words that are the same up to and with the word that stands there have the same fault
pub place_inside : (words : List ℕ) (f : BookFault) → sheet_end words ≡ Err f → f.place ≤ length words
place_inside words f e = (subst (Ends words 0) e (ends_sheet words)).1

module _ (words : List ℕ) (f : BookFault) (e : sheet_end words ≡ Err f) where
  pub place-front : sheet_end (take f.place words) ≡ Err f
  place-front =
      let p = f.place in
      let inside = place_inside words f e in
      let long : length (take p words) ≡ p = length-take-le p words inside in
      let same = take-take p p words (omega arith) in
      subst (λ (o : Out ℕ). Alike words (take p words) p same (omega arith) (inl (omega arith)) inside o (sheet_end (take p words))) e
      (alike_sheet words (take p words) p same (omega arith) (inl (omega arith)) inside) refl

  pub place-always : f.place < length words → (other : List ℕ) → take (f.place + 1) other ≡ take (f.place + 1) words → sheet_end other ≡ Err f
  place-always l other alike =
      let p = f.place in
      let inside = place_inside words f e in
      let long : p + 1 ≤ length other = omega (arith, ap length alike, length-take (p + 1) other, length-take-le (p + 1) words (omega arith)) in
      let same : take p other ≡ take p words = sym (take-take p (p + 1) other (omega arith)) ∙ (ap (take p) alike ∙ take-take p (p + 1) words (omega arith)) in
      let here : get_or other p 0 ≡ get_or words p 0 = sym (get_or-take (p + 1) other p 0 (omega arith)) ∙ (ap (λ xs. get_or xs p 0) alike ∙ get_or-take (p + 1) words p 0 (omega arith)) in
      subst (λ (o : Out ℕ). Alike words other p same (omega arith) (inr (l, here)) inside o (sheet_end other)) e
      (alike_sheet words other p same (omega arith) (inr (l, here)) inside) refl
