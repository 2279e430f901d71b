-- The lines of a text, one at a time.
use Rattle.std.proofs.Common.{◌≡◌, ℕ, suc, ◌+◌, ◌-◌, ◌<◌, List, [], ◌∷◌, length, take, drop, ap, ◌∙◌, ⊎_elim, arith, length-drop}
use Rattle.std.specs.List.{prefix_len}
use Rattle.std.proofs.lemmas.List.{drop-drop}
use Rattle.std.proofs.lemmas.Slice.{between_is}
use Rattle.std.proofs.lemmas.Bool.{cond-true, cond-false, cases_Bool}
use Rattle.text.proofs.Found.{leading_yes, leading_no}
use Rattle.text.specs.Lines.{in_line, begun, lines_at, line_at, lines_from}

pub lines_first : (p : ℕ) (b : ℕ) (bs : List ℕ) → lines_at p (b ∷ bs) ≡ record { place = p; bytes = take (prefix_len in_line (b ∷ bs)) (b ∷ bs) } ∷ lines_at (p + suc (prefix_len in_line (b ∷ bs))) (drop (suc (prefix_len in_line (b ∷ bs))) (b ∷ bs))
lines_first p b [] =
    ⊎_elim
    (λ e. cond-true (in_line b) (begun p b []) (record { place = p; bytes = [] } ∷ []) e ∙ rw (leading_yes in_line b [] e))
    (λ e. cond-false (in_line b) (begun p b []) (record { place = p; bytes = [] } ∷ []) e ∙ rw (leading_no in_line b [] e))
    (cases_Bool (in_line b))
lines_first p b (c ∷ cs) =
    ⊎_elim
    (λ e. cond-true (in_line b) (begun p b (lines_at (suc p) (c ∷ cs))) (record { place = p; bytes = [] } ∷ lines_at (suc p) (c ∷ cs)) e ∙ ap (begun p b) (lines_first (suc p) c cs) ∙ rw (leading_yes in_line b (c ∷ cs) e) (ap (λ q. record { place = p; bytes = b ∷ take (prefix_len in_line (c ∷ cs)) (c ∷ cs) } ∷ lines_at q (drop (suc (prefix_len in_line (c ∷ cs))) (c ∷ cs))) (omega arith)))
    (λ e. cond-false (in_line b) (begun p b (lines_at (suc p) (c ∷ cs))) (record { place = p; bytes = [] } ∷ lines_at (suc p) (c ∷ cs)) e ∙ rw (leading_no in_line b (c ∷ cs) e) (ap (λ q. record { place = p; bytes = [] } ∷ lines_at q (c ∷ cs)) (omega arith)))
    (cases_Bool (in_line b))

first_of : (p : ℕ) (bs : List ℕ) → 0 < length bs → lines_at p bs ≡ record { place = p; bytes = take (prefix_len in_line bs) bs } ∷ lines_at (p + suc (prefix_len in_line bs)) (drop (suc (prefix_len in_line bs)) bs)
first_of p [] h = absurd (omega arith)
first_of p (b ∷ bs) h = lines_first p b bs

pub line_next : (t : List ℕ) (from end : ℕ) → from < length t → end ≡ from + prefix_len in_line (drop from t) → lines_from t from ≡ line_at t from end ∷ lines_from t (end + 1)
line_next t from end h e =
    let n = prefix_len in_line (drop from t) in
    let a : n ≡ end - from = omega arith in
    let b : from + suc n ≡ end + 1 = omega arith in
    let front = ap (λ k. take k (drop from t)) a ∙ between_is t from end in
    let back = drop-drop (suc n) from t ∙ ap (λ k. drop k t) b in
    first_of from (drop from t) (omega (arith, length-drop from t)) ∙ (λ i. record { place = from; bytes = front i } ∷ lines_at (b i) (back i))
