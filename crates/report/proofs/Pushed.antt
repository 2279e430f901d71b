-- Outcomes one after another.
use Rattle.std.proofs.Common.{◌≡◌, ℕ, zero, suc, ◌+◌, ◌<◌, List, [], ◌∷◌, ◌++◌, length, sym, refl, ap, subst, arith}
use Rattle.text.specs.declared.words.Name.{Name}
use Rattle.writing.specs.Outcomes.{Outcome}
use Rattle.writing.specs.Reports.{target_text, target_texts, first_line, parts}
use Rattle.rules.specs.Books.{BookMeaning}
use Rattle.outcomes.specs.Due.{DueAt}
use Rattle.report.specs.Reported.{EachDue}

pub length-texts : (text : List ℕ) (names : List Name) (i : ℕ) (os : List Outcome) → length (target_texts text names i os) ≡ length os
length-texts text names i [] = refl
length-texts text names i (o ∷ os) = ap suc (length-texts text names (i + 1) os)

pub texts_append : (text : List ℕ) (names : List Name) (i k : ℕ) (os qs : List Outcome) → i + length os ≡ k → target_texts text names i (os ++ qs) ≡ target_texts text names i os ++ target_texts text names k qs
texts_append text names i k [] qs e = let same : i ≡ k = omega arith in ap (λ n. target_texts text names n qs) same
texts_append text names i k (o ∷ os) qs e = ap (λ ts. target_text text names i o ∷ ts) (texts_append text names (i + 1) k os qs (omega arith))

pub due-append : (b ts : BookMeaning) (i k : ℕ) (os qs : List Outcome) → i + length os ≡ k → EachDue b ts i os → EachDue b ts k qs → EachDue b ts i (os ++ qs)
due-append b ts i k [] qs e all more = let same : k ≡ i = omega arith in subst (λ n. EachDue b ts n qs) same more
due-append b ts i k (o ∷ os) qs e all more = (all.0, due-append b ts (i + 1) k os qs (omega arith) all.1 more)

-- outcomes for the n targets from i on
pub all_due : (b ts : BookMeaning) (many i n : ℕ) → i + n ≡ many → ((j : ℕ) → j < many → (o : Outcome) × DueAt b ts j o) → (os : List Outcome) × (length os ≡ n) × EachDue b ts i os
all_due b ts many i zero e ends = ([], refl, tt)
all_due b ts many i (suc n) e ends =
    let this = ends i (omega arith) in
    let rest = all_due b ts many (i + 1) n (omega arith) ends in
    (this.0 ∷ rest.0, ap suc rest.1, (this.1, rest.2))

-- the parts before a target's lines, these lines, and those after
pub parts-split : (text : List ℕ) (names : List Name) (many k : ℕ) (os : List Outcome) (o : Outcome) (rest : List Outcome) → many ≡ length (os ++ o ∷ rest) → 1 + length os ≡ k → (first_line many ∷ target_texts text names 1 os) ++ target_text text names k o ∷ target_texts text names (k + 1) rest ≡ parts text names (os ++ o ∷ rest)
parts-split text names many k os o rest long e =
    let split = sym (texts_append text names 1 k os (o ∷ rest) e) in
    λ i. first_line (long i) ∷ split i
