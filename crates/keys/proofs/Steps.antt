-- Steps of the loops, and what stands where in the rules of a key list.
use Rattle.std.proofs.Common.{◌≡◌, ℕ, zero, suc, ◌+◌, ◌*◌, ◌/◌, ◌^◌, ◌<◌, ◌≤◌, cond, List, [], ◌∷◌, length, get_or, Some, None, Ok, Err, Option, sym, refl, ap, ◌∙◌, arith, le-ltb, lt-ltb}
use Rattle.std.specs.List.{slice_get}
use Rattle.std.specs.Option.{option_map, MatchOption}
use Rattle.std.proofs.lemmas.List.FromFn.{length-map-range_with_len, get_or-map-range_with_len}
use Rattle.std.proofs.lemmas.Option.{slice_get-get_or, slice_get_past}
use Rattle.rules.specs.Rules.{Rule}
use Rattle.rules.specs.Books.{within, term_at}
use Rattle.rules.specs.declared.term.Term.TheVariants.{Variable}
use Rattle.keys.specs.Keys.{variables, key_rule, key_rules, AllBelow}
use Rattle.rules.specs.declared.fault.BookFault.{BookFault}
use Rattle.keys.specs.Faults.{Checked, fault_at, shaped, low_from, and_then, checked}

-- the tests of the bytes, from what was found
pub low_all : (limit : ℕ) (bytes : List ℕ) (place : ℕ) → AllBelow limit bytes (length bytes) → low_from limit bytes place ≡ Ok tt
low_all limit [] place h = refl
low_all limit (byte ∷ bytes) place h =
    ap (λ t. cond t (low_from limit bytes (place + 1)) (fault_at place)) (lt-ltb byte limit (h 0 (omega arith)))
    ∙ low_all limit bytes (place + 1) (λ i l. h (suc i) (omega arith))

pub low_first : (limit : ℕ) (bytes : List ℕ) (place i : ℕ) → i < length bytes → limit ≤ get_or bytes i 0 → AllBelow limit bytes i → low_from limit bytes place ≡ fault_at (place + i)
low_first limit [] place i l h below = absurd (omega arith)
low_first limit (byte ∷ bytes) place zero l h below =
    ap (λ t. cond t (low_from limit bytes (place + 1)) (fault_at place)) (le-ltb byte limit h) ∙ ap fault_at (omega arith)
low_first limit (byte ∷ bytes) place (suc i) l h below =
    ap (λ t. cond t (low_from limit bytes (place + 1)) (fault_at place)) (lt-ltb byte limit (below 0 (omega arith)))
    ∙ low_first limit bytes (place + 1) i (omega arith) h (λ k m. below (suc k) (omega arith)) ∙ ap fault_at (omega arith)

pub same_option : {X : Type 0} (o : Option X) → option_map (λ x. x) o ≡ o
same_option None = refl
same_option (Some x) = refl

-- the row of variables
variable_here : (width j : ℕ) → j < width → slice_get (variables width) j ≡ Some (Variable j)
variable_here width j h =
    let l = length-map-range_with_len Variable 0 width in
    slice_get-get_or (variables width) j (Variable 0) (omega arith) ∙ ap Some (get_or-map-range_with_len Variable 0 width j j (Variable 0) h (omega arith))

variable_past : (width j : ℕ) → width ≤ j → slice_get (variables width) j ≡ None
variable_past width j h = let l = length-map-range_with_len Variable 0 width in slice_get_past (variables width) j (omega arith)

-- the rules
pub rules_length : (width : ℕ) (bytes : List ℕ) → length (key_rules width bytes) ≡ length bytes / 2
rules_length width [] = refl
rules_length width (a ∷ []) = refl
rules_length width (a ∷ b ∷ bytes) = let h = rules_length width bytes in omega arith

pub rule-here : (width : ℕ) (bytes : List ℕ) (i : ℕ) → i < length bytes / 2 → slice_get (key_rules width bytes) i ≡ Some (key_rule width (get_or bytes (i * 2) 0) (get_or bytes (i * 2 + 1) 0))
rule-here width [] i h = absurd (omega arith)
rule-here width (a ∷ []) i h = absurd (omega arith)
rule-here width (a ∷ b ∷ bytes) zero h = refl
rule-here width (a ∷ b ∷ bytes) (suc i) h =
    let p : suc (suc (i * 2)) ≡ suc i * 2 = omega arith in
    let q : suc (suc (i * 2 + 1)) ≡ suc i * 2 + 1 = omega arith in
    rule-here width bytes i (omega arith) ∙ (λ k. Some (key_rule width (get_or (a ∷ b ∷ bytes) (p k) 0) (get_or (a ∷ b ∷ bytes) (q k) 0)))

pub rule-past : (width : ℕ) (bytes : List ℕ) (i : ℕ) → length bytes / 2 ≤ i → slice_get (key_rules width bytes) i ≡ None
rule-past width bytes i h = let l = rules_length width bytes in slice_get_past (key_rules width bytes) i (omega arith)

-- what a question about a rule comes to
module _ (rules : List Rule) (i width left right : ℕ) (e : slice_get rules i ≡ Some (key_rule width left right)) where
  term_row : (row column : ℕ) → term_at rules i row column ≡ within (slice_get (variables width ∷ []) row) (λ t. slice_get t column)
  term_row row column = ap (λ o. within o (λ r. within (slice_get r.pattern row) (λ t. slice_get t column))) e

  pub term_here : (row column : ℕ) → row ≤ 0 → column < width → term_at rules i row column ≡ Some (Variable column)
  term_here zero column h l = term_row zero column ∙ variable_here width column l
  term_here (suc row) column h l = absurd (omega arith)

  pub term_past : (row column : ℕ) → width ≤ column → term_at rules i row column ≡ None
  term_past zero column h = term_row zero column ∙ variable_past width column h
  term_past (suc row) column h = term_row (suc row) column

  pub row_past : (row column : ℕ) → 0 < row → term_at rules i row column ≡ None
  row_past zero column h = absurd (omega arith)
  row_past (suc row) column h = term_row (suc row) column

-- the check, from its two parts
pub check_failed : (width : ℕ) (bytes : List ℕ) (f : BookFault) → Err f ≡ shaped width (length bytes) → checked width bytes ≡ Err f
check_failed width bytes f e = ap (λ r. and_then r (low_from (2 ^ width) bytes 0)) (sym e)

-- what is told of the first byte that is too high, or that there is none, is what the check comes to
pub check_told : (width : ℕ) (bytes : List ℕ) (limit : ℕ) (o : Option ℕ) (r : Checked) → limit ≡ 2 ^ width → Ok tt ≡ shaped width (length bytes)
    → MatchOption o (AllBelow limit bytes (length bytes)) (λ i. (i < length bytes) × (limit ≤ get_or bytes i 0) × AllBelow limit bytes i)
    → MatchOption o (r ≡ Ok tt) (λ place. r ≡ fault_at place) → r ≡ checked width bytes
check_told width bytes limit o r l e found told = by_case o found told ∙ (ap (λ n. low_from n bytes 0) l ∙ ap (λ x. and_then x (low_from (2 ^ width) bytes 0)) e)
  where
    by_case : (o : Option ℕ) → MatchOption o (AllBelow limit bytes (length bytes)) (λ i. (i < length bytes) × (limit ≤ get_or bytes i 0) × AllBelow limit bytes i)
        → MatchOption o (r ≡ Ok tt) (λ place. r ≡ fault_at place) → r ≡ low_from limit bytes 0
    by_case None below t = t ∙ sym (low_all limit bytes 0 below)
    by_case (Some i) first t = t ∙ sym (low_first limit bytes 0 i first.0 first.1 first.2 ∙ ap fault_at (omega arith))
