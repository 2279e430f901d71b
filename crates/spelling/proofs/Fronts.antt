-- What more lines put down begins with what fewer did.
use Rattle.std.proofs.Common.{◌≡◌, ℕ, suc, ◌+◌, ◌≤◌, true, false, cond, List, [], ◌∷◌, ◌++◌, length, take, drop, Ok, sym, refl, ap, ◌∙◌, subst, append_assoc, append-nil, arith, length-append}
use Rattle.std.proofs.lemmas.List.{take-append-drop, take-take}
use Rattle.text.specs.Lines.{Line, clean}
use Rattle.text.specs.Words.{Word, words_at, is_variable}
use Rattle.rules.specs.Books.{base}
use Rattle.reader.specs.declared.fault.Cause.TheVariants.{Byte, Lines}
use Rattle.reader.specs.declared.desk.Counting.{Counting}
use Rattle.reader.specs.declared.desk.Counting.TheVariants as counting
use Rattle.reader.specs.declared.desk.Part.{Part}
use Rattle.reader.specs.declared.desk.Part.TheVariants as parts
use Rattle.reader.specs.Format.{Memo, Step, Due, count, kind, entry, then, whole_text, nothing, seen_in, number_of, with_width, with_names, with_vars, in_targets, words_line, read_line, read_lines}
use Rattle.spelling.specs.Draft.{add, extend_in, extend, put, puts, put_number}
use Rattle.spelling.specs.Room.{Front, Begins, put_by, PutDownBy, FirstPutDown}
use Rattle.spelling.proofs.Endless.{E}
use Rattle.spelling.proofs.Lexical.{no_ok, then_ok, cond_ok}
use Rattle.spelling.proofs.Taken.{entry-taken, count_taken, kind_taken}
use Rattle.spelling.proofs.Through.{follow-ok}

front-all : {X : Type 0} (xs : List X) → Front xs xs
front-all xs = ([], sym (append-nil xs))

front-through : {X : Type 0} (xs ys zs : List X) → Front xs ys → Front ys zs → Front xs zs
front-through xs ys zs (a, p) (b, q) = (a ++ b, q ∙ ap (λ l. l ++ b) p ∙ append_assoc xs a b)

pub front_length : {X : Type 0} (xs ys : List X) → Front xs ys → length xs ≤ length ys
front_length xs ys (a, p) = let l = ap length p ∙ length-append xs a in omega arith

begins-same : (m n : Memo) → n.rules ≡ m.rules → n.targets ≡ m.targets → n.names ≡ m.names → Begins m n
begins-same m n r t k = record {
  rules = subst (Front m.rules) (sym r) (front-all m.rules);
  targets = subst (Front m.targets) (sym t) (front-all m.targets);
  names = subst (Front m.names) (sym k) (front-all m.names);
}

pub begins-through : (m n k : Memo) → Begins m n → Begins n k → Begins m k
begins-through m n k a b = record {
  rules = front-through m.rules n.rules k.rules a.rules b.rules;
  targets = front-through m.targets n.targets k.targets a.targets b.targets;
  names = front-through m.names n.names k.names a.names b.names;
}

in_begins : (m : Memo) (xs : List ℕ) (p : Part) → Begins m (extend_in m xs p)
in_begins m xs parts.Rules = record { rules = (xs, refl); targets = front-all m.targets; names = front-all m.names }
in_begins m xs parts.Targets = record { rules = front-all m.rules; targets = (xs, refl); names = front-all m.names }

pub extend-begins : (m : Memo) (xs : List ℕ) → Begins m (extend m xs)
extend-begins m xs = in_begins m xs m.part

add-front : (seen : List Word) (w : Word) → Front seen (add seen w)
add-front seen w = elim (seen_in seen w) as (λ t. Front seen (cond t seen (seen ++ w ∷ []))) [ true ↦ front-all seen | false ↦ (w ∷ [], refl) ]

put-begins : (m : Memo) (w : Word) → Begins m (put m w)
put-begins m w =
    let xs = (base + number_of m.vars w) ∷ [] in
    let ys = number_of m.names w ∷ [] in
    let mv = with_vars m (add m.vars w) in
    let mn = with_names m (add m.names w) in
    elim (is_variable w.bytes) as (λ t. Begins m (cond t (extend mv xs) (extend mn ys))) [
      | true ↦ begins-through m mv (extend mv xs) (begins-same m mv refl refl refl) (extend-begins mv xs)
      | false ↦ begins-through m mn (extend mn ys) (record { rules = front-all m.rules; targets = front-all m.targets; names = add-front m.names w }) (extend-begins mn ys)
    ]

pub puts-begins : (m : Memo) (ws : List Word) → Begins m (puts m ws)
puts-begins m [] = begins-same m m refl refl refl
puts-begins m (w ∷ ws) = begins-through m (put m w) (puts (put m w) ws) (put-begins m w) (puts-begins (put m w) ws)

-- the same lists, and then more words
from_same : (m n : Memo) (xs : List ℕ) → n.rules ≡ m.rules → n.targets ≡ m.targets → n.names ≡ m.names → Begins m (extend n xs)
from_same m n xs r t k = begins-through m n (extend n xs) (begins-same m n r t k) (extend-begins n xs)

number_begins : (m : Memo) (n : ℕ) (c : Counting) → Begins m (put_number m n c)
number_begins m n counting.Width = from_same m (with_width m n) (n ∷ []) refl refl refl
number_begins m n counting.Rules = extend-begins m (n ∷ [])
number_begins m n counting.Targets =
    let k = extend (in_targets m) (m.width ∷ []) in
    begins-through m k (extend k (n ∷ [])) (from_same m (in_targets m) (m.width ∷ []) refl refl refl) (extend-begins k (n ∷ []))
number_begins m n counting.Rows = from_same m (with_vars m []) (n ∷ []) refl refl refl
number_begins m n counting.Left = extend-begins m (n ∷ [])
number_begins m n counting.Right = extend-begins m (n ∷ [])
number_begins m n counting.Pairs = let k = extend m (0 ∷ []) in begins-through m k (extend k (n ∷ [])) (extend-begins m (0 ∷ [])) (extend-begins k (n ∷ []))

words_begins : (m : Memo) (ws : List Word) (d : Due) (s : Step) → words_line E m ws d ≡ Ok s → Begins m s.memo
words_begins m ws (count c) s q = let t = count_taken c m ws s q in subst (λ z. Begins m z.memo) (sym t.2) (number_begins m t.0 c)
words_begins m ws kind s q = let t = kind_taken m ws s q in subst (λ z. Begins m z.memo) (sym t.2) (extend-begins m _)
words_begins m ws (entry e) s q = let t = entry-taken e m ws s q in subst (λ z. Begins m z.memo) (sym t.2) (puts-begins m ws)

-- one more line is taken
pub more_line : (d : Due) (ds : List Due) (m : Memo) (l : Line) (ls : List Line) (y : Memo) → put_by (d ∷ ds) m (l ∷ ls) ≡ Ok y → (s : Step) × (read_line E m l d ≡ Ok s) × (words_line E m (words_at l.place l.bytes) d ≡ Ok s) × (put_by (s.next ++ ds) s.memo ls ≡ Ok y)
more_line d ds m l ls y q =
    let t = then_ok (read_line E m l d) (λ s. put_by (s.next ++ ds) s.memo ls) y q in
    let c = cond_ok (clean l.bytes) (words_line E m (words_at l.place l.bytes) d) Byte t.0 t.1 in
    (t.0, t.1, c.1, t.2)

by_begins : (ds : List Due) (m : Memo) (ls : List Line) (y : Memo) → put_by ds m ls ≡ Ok y → Begins m y
by_begins ds m [] y q = let e : m ≡ y = cc in subst (Begins m) e (begins-same m m refl refl refl)
by_begins [] m (l ∷ ls) y q = no_ok Lines y q
by_begins (d ∷ ds) m (l ∷ ls) y q =
    let t = more_line d ds m l ls y q in
    let s = t.0 in
    begins-through m s.memo y (words_begins m (words_at l.place l.bytes) d s t.2) (by_begins (s.next ++ ds) s.memo ls y t.3)

first_of : (ds : List Due) (m : Memo) (ls more : List Line) (y : Memo) → put_by ds m (ls ++ more) ≡ Ok y → (k : Memo) × (put_by ds m ls ≡ Ok k) × Begins k y
first_of ds m [] more y q = (m, refl, by_begins ds m more y q)
first_of [] m (l ∷ ls) more y q = no_ok Lines y q
first_of (d ∷ ds) m (l ∷ ls) more y q =
    let t = more_line d ds m l (ls ++ more) y q in
    let s = t.0 in
    let r = first_of (s.next ++ ds) s.memo ls more y t.3 in
    (r.0, ap (λ o. then o (λ s'. put_by (s'.next ++ ds) s'.memo ls)) t.1 ∙ r.1, r.2)

pub first-put_down : FirstPutDown
first-put_down ls more n q = first_of whole_text nothing ls more n q

-- of the first i and the first j lines
pub fronts : (i j : ℕ) (ls : List Line) (a b : Memo) → i ≤ j → PutDownBy (take i ls) a → PutDownBy (take j ls) b → Begins a b
fronts i j ls a b h p q =
    let ks = take j ls in
    let r = first-put_down (take i ks) (drop i ks) b (ap (put_by whole_text nothing) (take-append-drop i ks) ∙ q) in
    let cut = ap (put_by whole_text nothing) (take-take i j ls h) in
    let same : r.0 ≡ a = cc (r.1, cut, p) in
    subst (λ m. Begins m b) same r.2

-- what is read is put down
pub read-put : (n : ℕ) (ds : List Due) (m : Memo) (ls : List Line) (y : Memo) → read_lines E n ds m ls ≡ Ok y → put_by ds m ls ≡ Ok y
read-put n [] m [] y q = let e : m ≡ y = cc in ap Ok e
read-put n (d ∷ ds) m [] y q = no_ok (record { cause = Lines; line = n }) y q
read-put n [] m (l ∷ ls) y q = no_ok (record { cause = Lines; line = n }) y q
read-put n (d ∷ ds) m (l ∷ ls) y q =
    let f = follow-ok n (read_line E m l d) (λ s. read_lines E (suc n) (s.next ++ ds) s.memo ls) y q in
    ap (λ o. then o (λ s. put_by (s.next ++ ds) s.memo ls)) f.1 ∙ read-put (suc n) (f.0.next ++ ds) f.0.memo ls y f.2
