-- A count is a decimal with no leading zero.
use Rattle.std.proofs.Common.{◌≡◌, ℕ, ◌+◌, ◌-◌, ◌*◌, ◌^◌, ◌<◌, ◌≤◌, Bool, true, false, cond, ◌&&◌, eqb, leb, List, [], ◌∷◌, length, get_or, Some, None, decimal, Option, sym, refl, ap, ◌∙◌, ⊎_elim, arith, rules}
use Rattle.std.proofs.lemmas.Str.Parse.{IsNumeralModel, numerals_by_fold}
use Rattle.std.proofs.lemmas.Fmt.{decimal-digits_value, digits_decimal, digits_value-decimal, first_decimal, decimal_digit, decimal_nonempty}
use Rattle.std.proofs.lemmas.Bool.{cases_lt, cases_Bool, cond-true, cond-false}
use Rattle.std.proofs.lemmas.Bool.Decides.{nat_tests}
use Rattle.text.specs.Counts.{is_digit, digits_from, number_of, within, count_of}
use Rattle.text.specs.Spelling.{CountsAreSpelled}

abbrev own_digits : List ℕ → Bool
own_digits [] = true
own_digits (b ∷ bs) = is_digit b && own_digits bs

abbrev read_on : ℕ → List ℕ → ℕ
read_on v [] = v
read_on v (b ∷ bs) = read_on (v * 10 + (b - 48)) bs

own : IsNumeralModel (λ ds. own_digits ds ≡ true) (read_on 0)
own = numerals_by_fold _ (search rules) read_on (search rules)

digits_split : (v : ℕ) (bs : List ℕ) → digits_from v bs ≡ cond (own_digits bs) (Some (read_on v bs)) None
digits_split v [] = refl
digits_split v (b ∷ bs) = elim (is_digit b) as (λ t. cond t (digits_from (v * 10 + (b - 48)) bs) None ≡ cond (t && own_digits bs) (Some (read_on (v * 10 + (b - 48)) bs)) None) [ true ↦ digits_split (v * 10 + (b - 48)) bs | false ↦ refl ]

within-some : (low high n : ℕ) (o : Option ℕ) → within low high o ≡ Some n → (o ≡ Some n) × (low ≤ n) × (n ≤ high)
within-some low high n None e = let z : ◌≡◌ {A = ℕ} 0 1 = cc in absurd (omega arith)
within-some low high n (Some v) e =
    let b = cases_Bool (leb low v && leb v high) in
    let h : (v ≡ n) × (low ≤ v) × (v ≤ high) = (grind (arith, nat_tests), grind (arith, nat_tests), grind (arith, nat_tests)) in
    (ap Some h.0, omega arith, omega arith)

number_some : (n b : ℕ) (bs : List ℕ) → number_of (b ∷ bs) ≡ Some n → (own_digits (b ∷ bs) ≡ true) × (read_on 0 (b ∷ bs) ≡ n) × (b ≡ 48 → length (b ∷ bs) ≡ 1)
number_some n b bs e =
    let s = digits_split 0 (b ∷ bs) in
    (grind (arith, nat_tests), grind (arith, nat_tests), λ z. grind (arith, nat_tests))

forth : (low high n : ℕ) (w : List ℕ) → high < 2 ^ 32 → count_of low high w ≡ Some n → (w ≡ decimal n) × (low ≤ n) × (n ≤ high)
forth low high n [] h e = let z : ◌≡◌ {A = ℕ} 0 1 = cc in absurd (omega arith)
forth low high n (b ∷ bs) h e =
    let i = within-some low high n (number_of (b ∷ bs)) e in
    let s = number_some n b bs i.0 in
    let small : read_on 0 (b ∷ bs) < 2 ^ 64 = omega (arith, s.1, i.2) in
    (sym (decimal-digits_value own (b ∷ bs) s.0 (omega arith) s.2 small) ∙ ap decimal s.1, i.1, i.2)

count_of-some : (low high n b : ℕ) (bs : List ℕ) → own_digits (b ∷ bs) ≡ true → read_on 0 (b ∷ bs) ≡ n → (b ≡ 48 → length (b ∷ bs) ≡ 1) → low ≤ n → n ≤ high → count_of low high (b ∷ bs) ≡ Some n
count_of-some low high n b bs d v lead lo hi =
    let first : (eqb b 48 && leb 1 (length bs)) ≡ false = grind (arith, nat_tests) in
    let range : (leb low n && leb n high) ≡ true = grind (arith, nat_tests) in
    ap (within low high) (cond-false (eqb b 48 && leb 1 (length bs)) None (digits_from 0 (b ∷ bs)) first ∙ digits_split 0 (b ∷ bs) ∙ cond-true (own_digits (b ∷ bs)) _ _ d ∙ ap Some v) ∙ cond-true (leb low n && leb n high) _ _ range

back : (low high n : ℕ) (w : List ℕ) → high < 2 ^ 32 → w ≡ decimal n → low ≤ n → n ≤ high → count_of low high w ≡ Some n
back low high n [] h e lo hi = absurd (omega (arith, ap length e, decimal_nonempty n (omega arith)))
back low high n (b ∷ bs) h e lo hi =
    let small : n < 2 ^ 64 = omega arith in
    count_of-some low high n b bs (ap own_digits e ∙ digits_decimal own n small) (ap (read_on 0) e ∙ digits_value-decimal own n small)
    (λ z. ⊎_elim
    (λ pos. absurd (omega (arith, first_decimal n pos small, ap (λ x. get_or x 0 0) e)))
    (λ none. let zero-n : n ≡ 0 = omega arith in ap length (e ∙ ap decimal zero-n ∙ decimal_digit 0 (omega arith)))
    (cases_lt 0 n))
    lo hi

pub counts_are_spelled : CountsAreSpelled
counts_are_spelled low high n w h = (forth low high n w h, λ p. back low high n w h p.0 p.1 p.2)
