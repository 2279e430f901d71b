-- Lines of keywords.
use Rattle.std.proofs.Common.{◌≡◌, ℕ, ◌^◌, ◌<◌, ◌≤◌, Bool, true, false, cond, not, ◌&&◌, eqb, leb, List, [], ◌∷◌, length, Some, None, Ok, Err, codes, decimal, Option, Result, sym, refl, ap, ◌∙◌, ⊎_elim, arith}
use Rattle.std.proofs.lemmas.Slice.Eq.{bytes_eq-Decides}
use Rattle.std.proofs.lemmas.Fmt.{length-decimal-le}
use Rattle.std.proofs.lemmas.Bool.{and_from, and_parts, le-leb, cond-true, cases_Bool, eqb-true}
use Rattle.text.specs.Words.{Word, bytes_of, same_word, is_term, is_dollar}
use Rattle.text.specs.Counts.{count_of}
use Rattle.text.proofs.Numbers.{counts_are_spelled}
use Rattle.rules.specs.declared.term.Kind.{Kind}
use Rattle.rules.specs.declared.term.Kind.TheVariants.{Functional, Equality}
use Rattle.reader.specs.declared.fault.Cause.TheVariants.{Form, Count}
use Rattle.reader.specs.declared.desk.Counting.{Counting}
use Rattle.reader.specs.declared.desk.Counting.TheVariants as counting
use Rattle.reader.specs.Format.{Out, then, counted, count_line, kind_line, keyword, least, most}
use Rattle.spelling.specs.Draft.{kind_key}

pub no_ok : {A F C : Type 0} (e : F) (y : A) → ◌≡◌ {A = Result A F} (Err e) (Ok y) → C
no_ok e y h = let z : ◌≡◌ {A = ℕ} 0 1 = cc in absurd (omega arith)

pub then_ok : {A B : Type 0} (o : Out A) (f : A → Out B) (y : B) → then o f ≡ Ok y → (x : A) × (o ≡ Ok x) × (f x ≡ Ok y)
then_ok (Ok x) f y e = (x, refl, e)
then_ok (Err r) f y e = no_ok r y e

pub cond_ok : {A F : Type 0} (t : Bool) (x : Result A F) (e : F) (y : A) → cond t x (Err e) ≡ Ok y → (t ≡ true) × (x ≡ Ok y)
cond_ok true x e y h = (refl, h)
cond_ok false x e y h = no_ok e y h

counted-ok : (o : Option ℕ) (n : ℕ) → counted o ≡ Ok n → o ≡ Some n
counted-ok None n e = no_ok Count n e
counted-ok (Some v) n e = let f : v ≡ n = cc in ap Some f

most-small : (c : Counting) → most c < 1000
most-small counting.Width = omega arith
most-small counting.Rules = omega arith
most-small counting.Targets = omega arith
most-small counting.Rows = omega arith
most-small counting.Left = omega arith
most-small counting.Right = omega arith
most-small counting.Pairs = omega arith

pub count_back : (c : Counting) (n : ℕ) (ws : List Word) → count_line c ws ≡ Ok n → (bytes_of ws ≡ keyword c ∷ decimal n ∷ []) × (least c ≤ n) × (n ≤ most c)
count_back c n [] e = no_ok Form n e
count_back c n (k ∷ []) e = no_ok Form n e
count_back c n (k ∷ w ∷ v ∷ ws) e = no_ok Form n e
count_back c n (k ∷ w ∷ []) e =
    let t = cond_ok (same_word k.bytes (keyword c) && is_term w.bytes) (counted (count_of (least c) (most c) w.bytes)) Form n e in
    let p = and_parts (same_word k.bytes (keyword c)) (is_term w.bytes) t.0 in
    let is = (bytes_eq-Decides k.bytes (keyword c)).0 p.0 in
    let h = most-small c in
    let small : most c < 2 ^ 32 = omega arith in
    let r = (counts_are_spelled (least c) (most c) n w.bytes small).0 (counted-ok (count_of (least c) (most c) w.bytes) n t.1) in
    let num = r.0 in
    ((λ i. is i ∷ num i ∷ []), r.1, r.2)

is_number : (c : Counting) (n : ℕ) → least c ≤ n → n ≤ most c → is_term (decimal n) ≡ true
is_number c n lo hi =
    let h = most-small c in
    let small : most c < 2 ^ 32 = omega arith in
    let short : length (decimal n) ≤ 3 = length-decimal-le 3 n (omega arith) (omega arith) (omega arith) in
    and_from (leb (length (decimal n)) 24) (not (is_dollar (decimal n))) (le-leb _ _ (omega arith)) (plain (decimal n) ((counts_are_spelled (least c) (most c) n (decimal n) small).1 (refl, lo, hi)))
  where
    no_number : {C : Type 0} → ◌≡◌ {A = Option ℕ} None (Some n) → C
    no_number q = let z : ◌≡◌ {A = ℕ} 0 1 = cc in absurd (omega arith)

    plain : (w : List ℕ) → count_of (least c) (most c) w ≡ Some n → not (is_dollar w) ≡ true
    plain [] q = refl
    plain (b ∷ d ∷ bs) q = refl
    plain (b ∷ []) q = ⊎_elim (λ e. no_number (sym (ap (λ x. count_of (least c) (most c) (x ∷ [])) (eqb-true b 36 e)) ∙ q)) (λ e. ap not e) (cases_Bool (eqb b 36))

pub count_on : (c : Counting) (n : ℕ) (ws : List Word) → bytes_of ws ≡ keyword c ∷ decimal n ∷ [] → least c ≤ n → n ≤ most c → count_line c ws ≡ Ok n
count_on c n [] e lo hi = let z : ◌≡◌ {A = ℕ} 0 1 = cc in absurd (omega arith)
count_on c n (k ∷ []) e lo hi = let z : ◌≡◌ {A = ℕ} 0 1 = cc in absurd (omega arith)
count_on c n (k ∷ w ∷ v ∷ ws) e lo hi = let z : ◌≡◌ {A = ℕ} 0 1 = cc in absurd (omega arith)
count_on c n (k ∷ w ∷ []) e lo hi =
    let a : k.bytes ≡ keyword c = cc in
    let b : w.bytes ≡ decimal n = cc in
    let h = most-small c in
    let small : most c < 2 ^ 32 = omega arith in
    cond-true (same_word k.bytes (keyword c) && is_term w.bytes) _ _ (and_from _ _ ((bytes_eq-Decides k.bytes (keyword c)).1 a) (ap is_term b ∙ is_number c n lo hi))
    ∙ ap counted ((counts_are_spelled (least c) (most c) n w.bytes small).1 (b, lo, hi))

abbrev F : List ℕ
F = codes "functional"

abbrev Q : List ℕ
Q = codes "equality"

kind_key_is : (k : Kind) (w : List ℕ) (t u : Bool) → same_word w F ≡ t → same_word w Q ≡ u → ◌≡◌ {A = Out Kind} (cond t (Ok Functional) (cond u (Ok Equality) (Err Form))) (Ok k) → w ≡ kind_key k
kind_key_is k w true u a b q = let e : Functional ≡ k = cc in (bytes_eq-Decides w F).0 a ∙ ap kind_key e
kind_key_is k w false true a b q = let e : Equality ≡ k = cc in (bytes_eq-Decides w Q).0 b ∙ ap kind_key e
kind_key_is k w false false a b q = no_ok Form k q

pub kind_back : (k : Kind) (ws : List Word) → kind_line ws ≡ Ok k → bytes_of ws ≡ kind_key k ∷ []
kind_back k [] q = no_ok Form k q
kind_back k (w ∷ v ∷ ws) q = no_ok Form k q
kind_back k (w ∷ []) q = ap (λ b. b ∷ []) (kind_key_is k w.bytes (same_word w.bytes F) (same_word w.bytes Q) refl refl q)

kind_said : (k : Kind) (w : List ℕ) → w ≡ kind_key k → ◌≡◌ {A = Out Kind} (cond (same_word w F) (Ok Functional) (cond (same_word w Q) (Ok Equality) (Err Form))) (Ok k)
kind_said Functional w e = ap (λ b. cond (same_word b F) (Ok Functional) (cond (same_word b Q) (Ok Equality) (Err Form))) e
kind_said Equality w e = ap (λ b. cond (same_word b F) (Ok Functional) (cond (same_word b Q) (Ok Equality) (Err Form))) e

pub kind_on : (k : Kind) (ws : List Word) → bytes_of ws ≡ kind_key k ∷ [] → kind_line ws ≡ Ok k
kind_on k [] e = let z : ◌≡◌ {A = ℕ} 0 1 = cc in absurd (omega arith)
kind_on k (w ∷ v ∷ ws) e = let z : ◌≡◌ {A = ℕ} 0 1 = cc in absurd (omega arith)
kind_on k (w ∷ []) e = let a : w.bytes ≡ kind_key k = cc in kind_said k w.bytes a
