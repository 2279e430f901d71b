-- The lines as lists of words, with endless room.
use Rattle.std.proofs.Common.{◌≡◌, ℕ, suc, List, [], ◌∷◌, ◌++◌, map, Ok, Err, Result, refl, ap, ◌∙◌}
use Rattle.std.proofs.lemmas.Bool.{cond-true}
use Rattle.text.specs.Lines.{Line, clean}
use Rattle.text.specs.Words.{Word, words_at}
use Rattle.text.proofs.Spelled.{words_are_spelled}
use Rattle.reader.specs.declared.fault.Cause.TheVariants.{Byte, Lines}
use Rattle.reader.specs.declared.fault.ReadFault.{ReadFault}
use Rattle.reader.specs.Format.{Memo, Out, Step, Due, then, words_line, read_line, follow, read_lines}
use Rattle.spelling.specs.Draft.{LineWords}
use Rattle.spelling.proofs.Endless.{E}
use Rattle.spelling.proofs.Lexical.{no_ok, then_ok, cond_ok}

abbrev pub through : List Due → Memo → List (List Word) → Out Memo
through [] m [] = Ok m
through (d ∷ ds) m [] = Err Lines
through [] m (ws ∷ wss) = Err Lines
through (d ∷ ds) m (ws ∷ wss) = then (words_line E m ws d) (λ s. through (s.next ++ ds) s.memo wss)

abbrev pub worded : List Line → List (List Word)
worded ls = map (λ l. words_at l.place l.bytes) ls

pub step_on : (d : Due) (ds : List Due) (m : Memo) (ws : List Word) (wss : List (List Word)) (s : Step) → words_line E m ws d ≡ Ok s → through (d ∷ ds) m (ws ∷ wss) ≡ through (s.next ++ ds) s.memo wss
step_on d ds m ws wss s h = ap (λ o. then o (λ s'. through (s'.next ++ ds) s'.memo wss)) h

pub follow-ok : (n : ℕ) (o : Out Step) (f : Step → Result Memo ReadFault) (y : Memo) → follow n o f ≡ Ok y → (s : Step) × (o ≡ Ok s) × (f s ≡ Ok y)
follow-ok n (Ok s) f y e = (s, refl, e)
follow-ok n (Err r) f y e = no_ok (record { cause = r; line = n }) y e

pub read_through : (n : ℕ) (ds : List Due) (m : Memo) (ls : List Line) (y : Memo) → read_lines E n ds m ls ≡ Ok y → LineWords ls (worded ls) × (through ds m (worded ls) ≡ Ok y)
read_through n [] m [] y q = let e : m ≡ y = cc in (tt, ap Ok e)
read_through n [] m (l ∷ ls) y q = no_ok (record { cause = Lines; line = n }) y q
read_through n (d ∷ ds) m [] y q = no_ok (record { cause = Lines; line = n }) y q
read_through n (d ∷ ds) m (l ∷ ls) y q =
    let ws = words_at l.place l.bytes in
    let f = follow-ok n (read_line E m l d) (λ s. read_lines E (suc n) (s.next ++ ds) s.memo ls) y q in
    let c = cond_ok (clean l.bytes) (words_line E m ws d) Byte f.0 f.1 in
    let r = read_through (suc n) (f.0.next ++ ds) f.0.memo ls y f.2 in
    ((c.0, (words_are_spelled l.place l.bytes ws).0 refl, r.0), step_on d ds m ws (worded ls) f.0 c.1 ∙ r.1)

pub through_read : (n : ℕ) (ds : List Due) (m : Memo) (ls : List Line) (wss : List (List Word)) (y : Memo) → LineWords ls wss → through ds m wss ≡ Ok y → read_lines E n ds m ls ≡ Ok y
through_read n [] m [] [] y h q = let e : m ≡ y = cc in ap Ok e
through_read n (d ∷ ds) m [] [] y h q = no_ok Lines y q
through_read n ds m [] (ws ∷ wss) y h q = absurd h
through_read n ds m (l ∷ ls) [] y h q = absurd h
through_read n [] m (l ∷ ls) (ws ∷ wss) y h q = no_ok Lines y q
through_read n (d ∷ ds) m (l ∷ ls) (ws ∷ wss) y h q =
    let t = then_ok (words_line E m ws d) (λ s. through (s.next ++ ds) s.memo wss) y q in
    let same = (words_are_spelled l.place l.bytes ws).1 h.1 in
    let step = cond-true (clean l.bytes) (words_line E m (words_at l.place l.bytes) d) (Err Byte) h.0 ∙ ap (λ z. words_line E m z d) same ∙ t.1 in
    ap (λ o. follow n o (λ s. read_lines E (suc n) (s.next ++ ds) s.memo ls)) step ∙ through_read (suc n) (t.0.next ++ ds) t.0.memo ls wss y h.2 t.2
