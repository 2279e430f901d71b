-- Where lines are refused, with endless room.
use Rattle.std.proofs.Common.{◌≡◌, ℕ, zero, suc, ◌+◌, ◌-◌, ◌≤◌, Bool, true, false, cond, ◌&&◌, ◌⊎◌, List, [], ◌∷◌, ◌++◌, length, take, Some, None, Ok, Err, codes, Option, Result, sym, refl, ap, ◌∙◌, inl, inr, ⊎_elim, arith}
use Rattle.text.specs.Lines.{Line, clean}
use Rattle.text.specs.Words.{Word, words_at, same_word, is_term}
use Rattle.text.specs.Counts.{count_of}
use Rattle.rules.specs.declared.term.Kind.TheVariants.{Functional, Equality}
use Rattle.sheets.specs.Layout.{kind_word}
use Rattle.reader.specs.declared.fault.Cause.{Cause}
use Rattle.reader.specs.declared.fault.Cause.TheVariants.{Byte, Form, Count, Unknown, Room, Lines}
use Rattle.reader.specs.declared.fault.ReadFault.{ReadFault}
use Rattle.reader.specs.declared.desk.Counting.{Counting}
use Rattle.reader.specs.Format.{Memo, Out, Step, Due, count, kind, entry, then, counted, count_line, put_count, kind_line, put_word, entry_line, put_terms, shaped, known, keyword, least, most, words_line, read_line, follow, read_lines}
use Rattle.spelling.proofs.Endless.{E, word_e, terms_e, count_e}
use Rattle.spelling.proofs.Lexical.{no_ok}

abbrev pub Refused : ℕ → Cause → Result Memo ReadFault
Refused n e = Err (record { cause = e; line = n })

abbrev why_of : Result Memo ReadFault → Cause
why_of (Ok m) = Room
why_of (Err e) = e.cause

abbrev where_of : Result Memo ReadFault → ℕ
where_of (Ok m) = 0
where_of (Err e) = e.line

pub same_cause : (i j : ℕ) (a b : Cause) → Refused i a ≡ Refused j b → a ≡ b
same_cause i j a b h = ap why_of h

pub same_line : (i j : ℕ) (a b : Cause) → Refused i a ≡ Refused j b → i ≡ j
same_line i j a b h = ap where_of h

-- no line is refused at a number before its own
pub line_late : (n j : ℕ) (e : Cause) (ds : List Due) (m : Memo) (ls : List Line) → read_lines E n ds m ls ≡ Refused j e → n ≤ j
line_late n j e [] m [] q = no_ok (record { cause = e; line = j }) m (sym q)
line_late n j e (d ∷ ds) m [] q = let s = same_line n j Lines e q in omega arith
line_late n j e [] m (l ∷ ls) q = let s = same_line n j Lines e q in omega arith
line_late n j e (d ∷ ds) m (l ∷ ls) q = on (read_line E m l d) (λ s. line_late (suc n) j e (s.next ++ ds) s.memo ls) q
  where
    on : (o : Out Step) → ((s : Step) → read_lines E (suc n) (s.next ++ ds) s.memo ls ≡ Refused j e → suc n ≤ j) → follow n o (λ s. read_lines E (suc n) (s.next ++ ds) s.memo ls) ≡ Refused j e → n ≤ j
    on (Err x) again q = let s = same_line n j x e q in omega arith
    on (Ok s) again q = let h = again s q in omega arith

-- a refusal depends on the lines up to its own
pub cut : (n k : ℕ) (e : Cause) (ds : List Due) (m : Memo) (ls other : List Line) → (e ≡ Lines → ⊥) → read_lines E n ds m ls ≡ Refused (n + k) e → take (suc k) other ≡ take (suc k) ls → read_lines E n ds m other ≡ Refused (n + k) e
cut n k e [] m [] other ne q same = no_ok (record { cause = e; line = n + k }) m (sym q)
cut n k e (d ∷ ds) m [] other ne q same = absurd (ne (sym (same_cause n (n + k) Lines e q)))
cut n k e [] m (l ∷ ls) other ne q same = absurd (ne (sym (same_cause n (n + k) Lines e q)))
cut n k e (d ∷ ds) m (l ∷ ls) [] ne q same = let z : ◌≡◌ {A = ℕ} 0 1 = cc in absurd (omega arith)
cut n k e (d ∷ ds) m (l ∷ ls) (x ∷ other) ne q same =
    let first : x ≡ l = cc in
    let rest : take k other ≡ take k ls = cc in
    ap (λ z. read_lines E n (d ∷ ds) m (z ∷ other)) first ∙ on (read_line E m l d) k (λ s i. cut (suc n) i e (s.next ++ ds) s.memo ls other ne) q rest
  where
    on : (o : Out Step) (k : ℕ) → ((s : Step) (i : ℕ) → read_lines E (suc n) (s.next ++ ds) s.memo ls ≡ Refused (suc n + i) e → take (suc i) other ≡ take (suc i) ls → read_lines E (suc n) (s.next ++ ds) s.memo other ≡ Refused (suc n + i) e) → follow n o (λ s. read_lines E (suc n) (s.next ++ ds) s.memo ls) ≡ Refused (n + k) e → take k other ≡ take k ls → follow n o (λ s. read_lines E (suc n) (s.next ++ ds) s.memo other) ≡ Refused (n + k) e
    on (Err x) k again q rest = q
    on (Ok s) zero again q rest = let h = line_late (suc n) (n + 0) e (s.next ++ ds) s.memo ls q in absurd (omega arith)
    on (Ok s) (suc k) again q rest =
        let at : n + suc k ≡ suc n + k = omega arith in
        again s k (q ∙ ap (λ i. Refused i e) at) rest ∙ ap (λ i. Refused i e) (sym at)

-- with endless room a line itself is refused neither for its number nor for want of a place

abbrev Fair : {A : Type 0} → Out A → Type 0
Fair (Ok x) = Unit {0}
Fair (Err e) = (e ≡ Lines → ⊥) × (e ≡ Room → ⊥)

fair_then : {A B : Type 0} (o : Out A) (f : A → Out B) → Fair o → ((x : A) → Fair (f x)) → Fair (then o f)
fair_then (Ok x) f h g = g x
fair_then (Err e) f h g = h

fair_cond : {A : Type 0} (t : Bool) (a b : Out A) → Fair a → Fair b → Fair (cond t a b)
fair_cond true a b h k = h
fair_cond false a b h k = k

fair_ok : {A : Type 0} (o : Out A) (x : A) → o ≡ Ok x → Fair o
fair_ok (Ok y) x e = tt
fair_ok (Err r) x e = no_ok r x e

form_fair : (Form ≡ Lines → ⊥) × (Form ≡ Room → ⊥)
form_fair = ((λ h. let z : ◌≡◌ {A = ℕ} 0 1 = cc (h) in omega arith), (λ h. let z : ◌≡◌ {A = ℕ} 0 1 = cc (h) in omega arith))

count_fair : (Count ≡ Lines → ⊥) × (Count ≡ Room → ⊥)
count_fair = ((λ h. let z : ◌≡◌ {A = ℕ} 0 1 = cc (h) in omega arith), (λ h. let z : ◌≡◌ {A = ℕ} 0 1 = cc (h) in omega arith))

unknown_fair : (Unknown ≡ Lines → ⊥) × (Unknown ≡ Room → ⊥)
unknown_fair = ((λ h. let z : ◌≡◌ {A = ℕ} 0 1 = cc (h) in omega arith), (λ h. let z : ◌≡◌ {A = ℕ} 0 1 = cc (h) in omega arith))

byte_fair : (Byte ≡ Lines → ⊥) × (Byte ≡ Room → ⊥)
byte_fair = ((λ h. let z : ◌≡◌ {A = ℕ} 0 1 = cc (h) in omega arith), (λ h. let z : ◌≡◌ {A = ℕ} 0 1 = cc (h) in omega arith))

lines_fair : Lines ≡ Room → ⊥
lines_fair h = let z : ◌≡◌ {A = ℕ} 0 1 = cc in omega arith

fair_counted : (o : Option ℕ) → Fair (counted o)
fair_counted None = count_fair
fair_counted (Some n) = tt

fair_count : (c : Counting) (ws : List Word) → Fair (count_line c ws)
fair_count c [] = form_fair
fair_count c (k ∷ []) = form_fair
fair_count c (k ∷ n ∷ []) = fair_cond (same_word k.bytes (keyword c) && is_term n.bytes) (counted (count_of (least c) (most c) n.bytes)) (Err Form) (fair_counted (count_of (least c) (most c) n.bytes)) form_fair
fair_count c (k ∷ n ∷ w ∷ ws) = form_fair

fair_kind : (ws : List Word) → Fair (kind_line ws)
fair_kind [] = form_fair
fair_kind (k ∷ []) = fair_cond (same_word k.bytes (codes "functional")) (Ok Functional) (cond (same_word k.bytes (codes "equality")) (Ok Equality) (Err Form)) tt (fair_cond (same_word k.bytes (codes "equality")) (Ok Equality) (Err Form) tt form_fair)
fair_kind (k ∷ w ∷ ws) = form_fair

fair_words : (m : Memo) (ws : List Word) (d : Due) → Fair (words_line E m ws d)
fair_words m ws (count c) = fair_then (count_line c ws) _ (fair_count c ws) (λ n. fair_then (put_count E m n c) _ (fair_ok (put_count E m n c) _ (count_e m n c)) (λ k. tt))
fair_words m ws kind = fair_then (kind_line ws) _ (fair_kind ws) (λ k. fair_then (put_word E m (kind_word k)) _ (fair_ok (put_word E m (kind_word k)) _ (word_e m (kind_word k))) (λ n. tt))
fair_words m ws (entry e) = fair_then (entry_line E m ws e) _ (fair_cond (shaped m.width ws e) (cond (known m.vars ws e) (put_terms E m ws) (Err Unknown)) (Err Form) (fair_cond (known m.vars ws e) (put_terms E m ws) (Err Unknown) (fair_ok (put_terms E m ws) _ (terms_e m ws)) unknown_fair) form_fair) (λ k. tt)

fair_line : (m : Memo) (l : Line) (d : Due) → Fair (read_line E m l d)
fair_line m l d = fair_cond (clean l.bytes) (words_line E m (words_at l.place l.bytes) d) (Err Byte) (fair_words m (words_at l.place l.bytes) d) byte_fair

-- a line is missing, or the lines before are the whole
pub missing : (n j : ℕ) (ds : List Due) (m : Memo) (ls : List Line) → read_lines E n ds m ls ≡ Refused j Lines → (j ≡ n + length ls) ⊎ ((y : Memo) × (read_lines E n ds m (take (j - n) ls) ≡ Ok y))
missing n j [] m [] q = no_ok (record { cause = Lines; line = j }) m (sym q)
missing n j (d ∷ ds) m [] q = let s = same_line n j Lines Lines q in inl (omega arith)
missing n j [] m (l ∷ ls) q =
    let s = same_line n j Lines Lines q in
    let none : j - n ≡ 0 = omega arith in
    inr (m, ap (λ i. read_lines E n [] m (take i (l ∷ ls))) none)
missing n j (d ∷ ds) m (l ∷ ls) q = on (read_line E m l d) refl (fair_line m l d) (λ s. missing (suc n) j (s.next ++ ds) s.memo ls) q
  where
    on : (o : Out Step) → read_line E m l d ≡ o → Fair o → ((s : Step) → read_lines E (suc n) (s.next ++ ds) s.memo ls ≡ Refused j Lines → (j ≡ suc n + length ls) ⊎ ((y : Memo) × (read_lines E (suc n) (s.next ++ ds) s.memo (take (j - suc n) ls) ≡ Ok y))) → follow n o (λ s. read_lines E (suc n) (s.next ++ ds) s.memo ls) ≡ Refused j Lines → (j ≡ n + length (l ∷ ls)) ⊎ ((y : Memo) × (read_lines E n (d ∷ ds) m (take (j - n) (l ∷ ls)) ≡ Ok y))
    on (Err x) e fair again q = absurd (fair.0 (same_cause n j x Lines q))
    on (Ok s) e fair again q =
        let late = line_late (suc n) j Lines (s.next ++ ds) s.memo ls q in
        let more : j - n ≡ suc (j - suc n) = omega arith in
        ⊎_elim
        (λ h. inl (omega arith))
        (λ h. inr (h.0, ap (λ i. read_lines E n (d ∷ ds) m (take i (l ∷ ls))) more ∙ ap (λ z. follow n z (λ s'. read_lines E (suc n) (s'.next ++ ds) s'.memo (take (j - suc n) ls))) e ∙ h.1))
        (again s q)

pub never_full : (n j : ℕ) (ds : List Due) (m : Memo) (ls : List Line) → read_lines E n ds m ls ≡ Refused j Room → ⊥
never_full n j [] m [] q = no_ok (record { cause = Room; line = j }) m (sym q)
never_full n j (d ∷ ds) m [] q = lines_fair (same_cause n j Lines Room q)
never_full n j [] m (l ∷ ls) q = lines_fair (same_cause n j Lines Room q)
never_full n j (d ∷ ds) m (l ∷ ls) q = on (read_line E m l d) (fair_line m l d) (λ s. never_full (suc n) j (s.next ++ ds) s.memo ls) q
  where
    on : (o : Out Step) → Fair o → ((s : Step) → read_lines E (suc n) (s.next ++ ds) s.memo ls ≡ Refused j Room → ⊥) → follow n o (λ s. read_lines E (suc n) (s.next ++ ds) s.memo ls) ≡ Refused j Room → ⊥
    on (Err x) fair again q = fair.1 (same_cause n j x Room q)
    on (Ok s) fair again q = again s q
