-- The words and the lines are those that are spelled.
use Rattle.std.proofs.Common.{◌≡◌, ℕ, zero, suc, ◌+◌, ◌-◌, ◌<◌, not, eqb, List, [], ◌∷◌, ◌++◌, length, replicate, sym, refl, ap, ◌∙◌, subst, inl, inr, ⊎_elim, append_assoc, append-nil, arith, length-append}
use Rattle.std.specs.List.{AllByRecursion}
use Rattle.std.proofs.ByRecursion.{All-push}
use Rattle.std.proofs.lemmas.Bool.{cond-true, cond-false, cases_Bool, ne_eqb, eq-eqb, eqb-true, eqb-false}
use Rattle.text.specs.Lines.{Line, in_line, begun, lines_at}
use Rattle.text.specs.Words.{Word, in_word, closed, words_from, words_at}
use Rattle.text.specs.Spelling.{Apart, Spaced, Lined, WordsAreSpelled, LinesAreSpelled}

on : (p b : ℕ) (cur bs : List ℕ) → (b ≡ 32 → ⊥) → words_from p cur (b ∷ bs) ≡ words_from (suc p) (cur ++ b ∷ []) bs
on p b cur bs h = cond-true (in_word b) _ _ (ap not (ne_eqb b 32 h))

off : (p b : ℕ) (cur bs : List ℕ) → b ≡ 32 → words_from p cur (b ∷ bs) ≡ closed p cur (words_from (suc p) [] bs)
off p b cur bs h = cond-false (in_word b) (words_from (suc p) (cur ++ b ∷ []) bs) (closed p cur (words_from (suc p) [] bs)) (ap not (eq-eqb b 32 h))

blank : (p : ℕ) (bs : List ℕ) → AllByRecursion (λ b. b ≡ 32) bs → words_from p [] bs ≡ []
blank p [] h = refl
blank p (b ∷ bs) h = off p b [] bs h.0 ∙ blank (suc p) bs h.1

lead : (p k : ℕ) (bs : List ℕ) → words_from p [] (replicate k 32 ++ bs) ≡ words_from (p + k) [] bs
lead p zero bs = ap (λ q. words_from q [] bs) (omega arith)
lead p (suc k) bs = off p 32 [] (replicate k 32 ++ bs) refl ∙ lead (suc p) k bs ∙ ap (λ q. words_from q [] bs) (omega arith)

through : (p : ℕ) (cur w bs : List ℕ) → AllByRecursion (λ b. b ≡ 32 → ⊥) w → words_from p cur (w ++ bs) ≡ words_from (p + length w) (cur ++ w) bs
through p cur [] bs h = let e : p ≡ p + 0 = omega arith in let f = sym (append-nil cur) in (λ i. words_from (e i) (f i) bs)
through p cur (b ∷ w) bs h =
    let e : suc p + length w ≡ p + length (b ∷ w) = omega arith in
    let f = append_assoc cur (b ∷ []) w in
    on p b cur (w ++ bs) h.0 ∙ through (suc p) (cur ++ b ∷ []) w bs h.1 ∙ (λ i. words_from (e i) (f i) bs)

shut : (p : ℕ) (cur rest : List ℕ) → 0 < length cur → Apart rest → words_from p cur rest ≡ record { place = p - length cur; bytes = cur } ∷ words_from p [] rest
shut p [] rest h a = absurd (omega arith)
shut p (c ∷ cs) [] h a = refl
shut p (c ∷ cs) (b ∷ bs) h a = off p b (c ∷ cs) bs a ∙ ap (λ ws. record { place = p - length (c ∷ cs); bytes = c ∷ cs } ∷ ws) (sym (off p b [] bs a))

spelled_words : (p : ℕ) (bs : List ℕ) (ws : List Word) → Spaced p ws bs → words_at p bs ≡ ws
spelled_words p bs [] h = blank p bs h
spelled_words p bs (w ∷ ws) (k, rest, e, pl, is, a, s) =
    let n = length w.bytes in
    let at : p + k + n - n ≡ w.place = omega arith in
    let more = spelled_words (p + k + n) rest ws s in
    ap (λ x. words_from p [] x) e ∙ lead p k (w.bytes ++ rest) ∙ through (p + k) [] w.bytes rest is.1 ∙ shut (p + k + n) w.bytes rest is.0 a ∙ (λ i. record { place = at i; bytes = w.bytes } ∷ more i)

more_space : (p : ℕ) (ws : List Word) (b : ℕ) (bs : List ℕ) → b ≡ 32 → Spaced (suc p) ws bs → Spaced p ws (b ∷ bs)
more_space p [] b bs e h = (e, h)
more_space p (w ∷ ws) b bs e (k, rest, f, pl, is, a, s) =
    let at : suc p + k + length w.bytes ≡ p + suc k + length w.bytes = omega arith in
    (suc k, rest, (λ i. e i ∷ f i), omega arith, is, a, subst (λ q. Spaced q ws rest) at s)

spells : (q p : ℕ) (cur bs : List ℕ) → q + length cur ≡ p → AllByRecursion (λ b. b ≡ 32 → ⊥) cur → Spaced q (words_from p cur bs) (cur ++ bs)
spells q p [] [] l h = tt
spells q p (c ∷ cs) [] l h = (0, [], refl, omega arith, (omega arith, h), tt, tt)
spells q p cur (b ∷ bs) l h =
    ⊎_elim
    (λ e. let is = eqb-true b 32 e in
    let r = more_space p (words_from (suc p) [] bs) b bs is (spells (suc p) (suc p) [] bs (omega arith) tt) in
    subst (λ ws. Spaced q ws (cur ++ b ∷ bs)) (sym (off p b cur bs is)) (end cur l h is r))
    (λ e. let ne = eqb-false b 32 e in
    let long = length-append cur (b ∷ []) in
    subst (λ ws. Spaced q ws (cur ++ b ∷ bs)) (sym (on p b cur bs ne))
    (subst (Spaced q (words_from (suc p) (cur ++ b ∷ []) bs)) (append_assoc cur (b ∷ []) bs) (spells q (suc p) (cur ++ b ∷ []) bs (omega arith) (All-push (λ x. x ≡ 32 → ⊥) cur b h ne))))
    (cases_Bool (eqb b 32))
  where
    end : (cur : List ℕ) → q + length cur ≡ p → AllByRecursion (λ b. b ≡ 32 → ⊥) cur → b ≡ 32 → Spaced p (words_from (suc p) [] bs) (b ∷ bs) → Spaced q (closed p cur (words_from (suc p) [] bs)) (cur ++ b ∷ bs)
    end [] l h is r = let at : p ≡ q = omega arith in subst (λ z. Spaced z (words_from (suc p) [] bs) (b ∷ bs)) at r
    end (c ∷ cs) l h is r =
        let at : p ≡ q + 0 + length (c ∷ cs) = omega arith in
        (0, b ∷ bs, refl, omega arith, (omega arith, h), is, subst (λ z. Spaced z (words_from (suc p) [] bs) (b ∷ bs)) at r)

pub words_are_spelled : WordsAreSpelled
words_are_spelled p bs ws = (λ e. subst (λ x. Spaced p x bs) e (spells p p [] bs (omega arith) tt), spelled_words p bs ws)

lines_at-in_line : (p b : ℕ) (bs : List ℕ) → (b ≡ 10 → ⊥) → lines_at p (b ∷ bs) ≡ begun p b (lines_at (suc p) bs)
lines_at-in_line p b bs h = cond-true (in_line b) _ _ (ap not (ne_eqb b 10 h))

at-line : (p b : ℕ) (bs : List ℕ) → b ≡ 10 → lines_at p (b ∷ bs) ≡ record { place = p; bytes = [] } ∷ lines_at (suc p) bs
at-line p b bs h = cond-false (in_line b) (begun p b (lines_at (suc p) bs)) (record { place = p; bytes = [] } ∷ lines_at (suc p) bs) (ap not (eq-eqb b 10 h))

-- a line that ends with 10
whole : (p : ℕ) (l rest : List ℕ) → AllByRecursion (λ b. b ≡ 10 → ⊥) l → lines_at p (l ++ 10 ∷ rest) ≡ record { place = p; bytes = l } ∷ lines_at (p + length l + 1) rest
whole p [] rest h = let at : suc p ≡ p + 0 + 1 = omega arith in at-line p 10 rest refl ∙ ap (λ q. record { place = p; bytes = [] } ∷ lines_at q rest) at
whole p (b ∷ l) rest h =
    let at : suc p + length l + 1 ≡ p + length (b ∷ l) + 1 = omega arith in
    lines_at-in_line p b (l ++ 10 ∷ rest) h.0 ∙ ap (begun p b) (whole (suc p) l rest h.1) ∙ ap (λ q. record { place = p; bytes = b ∷ l } ∷ lines_at q rest) at

-- a last line that does not
tail : (p b : ℕ) (l : List ℕ) → AllByRecursion (λ x. x ≡ 10 → ⊥) (b ∷ l) → lines_at p (b ∷ l) ≡ record { place = p; bytes = b ∷ l } ∷ []
tail p b [] h = lines_at-in_line p b [] h.0
tail p b (c ∷ l) h = lines_at-in_line p b (c ∷ l) h.0 ∙ ap (begun p b) (tail (suc p) c l h.1)

last : (p : ℕ) (l : List ℕ) → AllByRecursion (λ x. x ≡ 10 → ⊥) l → 0 < length l → lines_at p l ≡ record { place = p; bytes = l } ∷ []
last p [] h pos = absurd (omega arith)
last p (b ∷ l) h pos = tail p b l h

spelled_lines : (p : ℕ) (bs : List ℕ) (ls : List Line) → Lined p ls bs → lines_at p bs ≡ ls
spelled_lines p bs [] h = ap (lines_at p) h
spelled_lines p bs (l ∷ ls) (at, all, inl (rest, e, h)) =
    let more = spelled_lines (p + length l.bytes + 1) rest ls h in
    ap (lines_at p) e ∙ whole p l.bytes rest all ∙ (λ i. record { place = sym at i; bytes = l.bytes } ∷ more i)
spelled_lines p bs (l ∷ ls) (at, all, inr (none, e, pos)) = ap (lines_at p) e ∙ last p l.bytes all pos ∙ (λ i. record { place = sym at i; bytes = l.bytes } ∷ sym none i)

lines_spell : (p : ℕ) (bs : List ℕ) → Lined p (lines_at p bs) bs
lines_spell p [] = refl
lines_spell p (b ∷ bs) =
    ⊎_elim
    (λ e. let is = eqb-true b 10 e in
    let at : suc p ≡ p + 0 + 1 = omega arith in
    subst (λ ls. Lined p ls (b ∷ bs)) (sym (at-line p b bs is)) (refl, tt, inl (bs, (λ i. is i ∷ bs), subst (λ q. Lined q (lines_at (suc p) bs) bs) at (lines_spell (suc p) bs))))
    (λ e. let ne = eqb-false b 10 e in subst (λ ls. Lined p ls (b ∷ bs)) (sym (lines_at-in_line p b bs ne)) (grown (lines_at (suc p) bs) ne (lines_spell (suc p) bs)))
    (cases_Bool (eqb b 10))
  where
    grown : (ls : List Line) → (b ≡ 10 → ⊥) → Lined (suc p) ls bs → Lined p (begun p b ls) (b ∷ bs)
    grown [] ne h = (refl, (ne, tt), inr (refl, ap (λ x. b ∷ x) h, omega arith))
    grown (l ∷ ls) ne (here, all, inl (rest, e, h)) =
        let at : suc p + length l.bytes + 1 ≡ p + length (b ∷ l.bytes) + 1 = omega arith in
        (refl, (ne, all), inl (rest, ap (λ x. b ∷ x) e, subst (λ q. Lined q ls rest) at h))
    grown (l ∷ ls) ne (here, all, inr (none, e, pos)) = (refl, (ne, all), inr (none, ap (λ x. b ∷ x) e, omega arith))

pub lines_are_spelled : LinesAreSpelled
lines_are_spelled p bs ls = (λ e. subst (λ x. Lined p x bs) e (lines_spell p bs), spelled_lines p bs ls)
