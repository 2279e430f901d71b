-- A rule has at most 32 variables: they are numbered in at most 4 rows of at most 8 words.
use Rattle.std.proofs.Common.{◌≡◌, ℕ, zero, suc, ◌+◌, ◌*◌, ◌≤◌, true, eqb, List, [], ◌∷◌, ◌++◌, length, replicate, Ok, sym, refl, ap, ◌∙◌, subst, mul-le-mul, mul-zero, mul-suc, arith}
use Rattle.std.proofs.lemmas.Bool.{and_parts, eqb-true}
use Rattle.text.specs.Lines.{Line}
use Rattle.text.specs.Words.{Word, words_at}
use Rattle.rules.specs.declared.term.Kind.{Kind}
use Rattle.rules.specs.declared.term.Kind.TheVariants.{Functional, Equality}
use Rattle.sheets.specs.Layout.{kind_word}
use Rattle.reader.specs.declared.fault.Cause.TheVariants.{Lines}
use Rattle.reader.specs.declared.desk.Counting.{Counting}
use Rattle.reader.specs.declared.desk.Counting.TheVariants as counting
use Rattle.reader.specs.declared.desk.Entry.{Entry}
use Rattle.reader.specs.declared.desk.Entry.TheVariants as entries
use Rattle.reader.specs.Format.{Memo, Step, Due, count, kind, entry, most, all_terms, shaped, known, with_width, with_vars, in_targets, after_count, after_kind, words_line, whole_text, nothing}
use Rattle.spelling.specs.Draft.{extend, puts, put_number}
use Rattle.spelling.specs.Room.{put_by, PutDownBy}
use Rattle.spelling.proofs.Endless.{E}
use Rattle.spelling.proofs.Facts.{ext_vars, ext_width, puts-facts, line_vars}
use Rattle.spelling.proofs.Fronts.{more_line}
use Rattle.spelling.proofs.Lexical.{no_ok, count_back}
use Rattle.spelling.proofs.Taken.{entry-taken, count_taken, kind_taken}

-- how many rows are due
abbrev rows : List Due → ℕ
rows [] = 0
rows (count c ∷ ds) = rows ds
rows (kind ∷ ds) = rows ds
rows (entry entries.Row ∷ ds) = suc (rows ds)
rows (entry entries.Variable ∷ ds) = rows ds
rows (entry entries.Pair ∷ ds) = rows ds

-- rows are due before all else
abbrev RowsFirst : List Due → Type 0
RowsFirst [] = Unit {0}
RowsFirst (count c ∷ ds) = rows ds ≡ 0
RowsFirst (kind ∷ ds) = rows ds ≡ 0
RowsFirst (entry entries.Row ∷ ds) = RowsFirst ds
RowsFirst (entry entries.Variable ∷ ds) = rows ds ≡ 0
RowsFirst (entry entries.Pair ∷ ds) = rows ds ≡ 0

-- the rows still due have room for their variables
pub record Few (ds : List Due) (m : Memo) : Type 0 where
  first : RowsFirst ds
  narrow : m.width ≤ 8
  few : length m.vars + m.width * rows ds ≤ 32

none_first : (ds : List Due) → rows ds ≡ 0 → RowsFirst ds
none_first [] h = tt
none_first (count c ∷ ds) h = h
none_first (kind ∷ ds) h = h
none_first (entry entries.Row ∷ ds) h = absurd (omega arith)
none_first (entry entries.Variable ∷ ds) h = h
none_first (entry entries.Pair ∷ ds) h = h

-- no row is due
few_none : (ds : List Due) (m : Memo) → rows ds ≡ 0 → m.width ≤ 8 → length m.vars ≤ 32 → Few ds m
few_none ds m none narrow few = record {
  first = none_first ds none;
  narrow = narrow;
  few = (let z : m.width * rows ds ≡ 0 = ap (λ i. m.width * i) none ∙ mul-zero m.width in omega arith);
}

rows_append : (ds es : List Due) → rows (ds ++ es) ≡ rows ds + rows es
rows_append [] es = omega arith
rows_append (count c ∷ ds) es = rows_append ds es
rows_append (kind ∷ ds) es = rows_append ds es
rows_append (entry entries.Row ∷ ds) es = let h = rows_append ds es in omega arith
rows_append (entry entries.Variable ∷ ds) es = rows_append ds es
rows_append (entry entries.Pair ∷ ds) es = rows_append ds es

kinds_none : (n : ℕ) → rows (replicate n kind) ≡ 0
kinds_none zero = refl
kinds_none (suc n) = kinds_none n

variables-none : (n : ℕ) → rows (replicate n (entry entries.Variable)) ≡ 0
variables-none zero = refl
variables-none (suc n) = variables-none n

pairs_none : (n : ℕ) → rows (replicate n (entry entries.Pair)) ≡ 0
pairs_none zero = refl
pairs_none (suc n) = pairs_none n

rows-many : (n : ℕ) (ds : List Due) → rows (replicate n (entry entries.Row) ++ ds) ≡ n + rows ds
rows-many zero ds = omega arith
rows-many (suc n) ds = let h = rows-many n ds in omega arith

rows-front : (n : ℕ) (ds : List Due) → RowsFirst ds → RowsFirst (replicate n (entry entries.Row) ++ ds)
rows-front zero ds h = h
rows-front (suc n) ds h = rows-front n ds h

-- before what has no rows due, and with the same width and variables
still : (next ds : List Due) (m k : Memo) → rows next ≡ 0 → rows ds ≡ 0 → k.width ≡ m.width → k.vars ≡ m.vars → m.width ≤ 8 → length m.vars ≤ 32 → Few (next ++ ds) k
still next ds m k a b w v narrow few =
    let none = rows_append next ds in
    let l = ap length v in
    few_none (next ++ ds) k (omega arith) (omega arith) (omega arith)

module _ (m : Memo) (ds : List Due) (none : rows ds ≡ 0) (narrow : m.width ≤ 8) (few : length m.vars ≤ 32) where
  twice-width : (n : Memo) (xs ys : List ℕ) → (extend (extend n xs) ys).width ≡ n.width
  twice-width n xs ys = ext_width (extend n xs) ys (extend n xs).part ∙ ext_width n xs n.part

  twice-vars : (n : Memo) (xs ys : List ℕ) → (extend (extend n xs) ys).vars ≡ n.vars
  twice-vars n xs ys = ext_vars (extend n xs) ys (extend n xs).part ∙ ext_vars n xs n.part

  words_after_rows : (n : ℕ) → n ≤ 4 → Few (replicate n (entry entries.Row) ++ ds) (put_number m n counting.Rows)
  words_after_rows n high =
      let k = with_vars m [] in
      let w = ext_width k (n ∷ []) m.part in
      let v = ap length (ext_vars k (n ∷ []) m.part) in
      let many = rows-many n ds in
      let all : rows (replicate n (entry entries.Row) ++ ds) ≡ n = omega arith in
      let product = mul-le-mul narrow high in
      let same : (put_number m n counting.Rows).width * rows (replicate n (entry entries.Row) ++ ds) ≡ m.width * n = λ i. w i * all i in
      record { first = rows-front n ds (none_first ds none); narrow = omega arith; few = omega arith }

  count_few : (c : Counting) (n : ℕ) → n ≤ most c → Few (after_count c n ++ ds) (put_number m n c)
  count_few counting.Width n high =
      let k = with_width m n in
      let w = ext_width k (n ∷ []) m.part in
      let v = ap length (ext_vars k (n ∷ []) m.part) in
      few_none ds (put_number m n counting.Width) none (omega arith) (omega arith)
  count_few counting.Rules n high = still (replicate n kind) ds m (extend m (n ∷ [])) (kinds_none n) none (ext_width m (n ∷ []) m.part) (ext_vars m (n ∷ []) m.part) narrow few
  count_few counting.Targets n high = still (replicate n kind) ds m (put_number m n counting.Targets) (kinds_none n) none (twice-width (in_targets m) (m.width ∷ []) (n ∷ [])) (twice-vars (in_targets m) (m.width ∷ []) (n ∷ [])) narrow few
  count_few counting.Rows n high = words_after_rows n high
  count_few counting.Left n high = still (replicate n (entry entries.Variable)) ds m (extend m (n ∷ [])) (variables-none n) none (ext_width m (n ∷ []) m.part) (ext_vars m (n ∷ []) m.part) narrow few
  count_few counting.Right n high = still (replicate n (entry entries.Variable)) ds m (extend m (n ∷ [])) (variables-none n) none (ext_width m (n ∷ []) m.part) (ext_vars m (n ∷ []) m.part) narrow few
  count_few counting.Pairs n high = still (replicate n (entry entries.Pair)) ds m (put_number m n counting.Pairs) (pairs_none n) none (twice-width m (0 ∷ []) (n ∷ [])) (twice-vars m (0 ∷ []) (n ∷ [])) narrow few

  kind_few : (k : Kind) → Few (after_kind k ++ ds) (extend m (kind_word k ∷ []))
  kind_few Functional = still (after_kind Functional) ds m (extend m (1 ∷ [])) refl none (ext_width m (1 ∷ []) m.part) (ext_vars m (1 ∷ []) m.part) narrow few
  kind_few Equality = still (after_kind Equality) ds m (extend m (2 ∷ [])) refl none (ext_width m (2 ∷ []) m.part) (ext_vars m (2 ∷ []) m.part) narrow few

  -- a line of known variables
  known-few : (ws : List Word) → (puts m ws).vars ≡ m.vars → Few ds (puts m ws)
  known-few ws v = still [] ds m (puts m ws) refl none (puts-facts m ws).width v narrow few

within : (ds : List Due) (m : Memo) → Few ds m → length m.vars ≤ 32
within ds m h = let f = h.few in omega arith

entry-few : (e : Entry) (ds : List Due) (m : Memo) (ws : List Word) → Few (entry e ∷ ds) m → shaped m.width ws e ≡ true → known m.vars ws e ≡ true → Few ds (puts m ws)
entry-few entries.Row ds m ws h fit k =
    let f = puts-facts m ws in
    let w = f.width in
    let long = eqb-true (length ws) m.width (and_parts (eqb (length ws) m.width) (all_terms ws) fit).0 in
    let more = mul-suc m.width (rows ds) in
    let same : (puts m ws).width * rows ds ≡ m.width * rows ds = ap (λ i. i * rows ds) w in
    let narrow = h.narrow in
    let few = h.few in
    let most = f.few in
    record { first = h.first; narrow = omega arith; few = omega arith }
entry-few entries.Variable ds m ws h fit k = known-few m ds h.first h.narrow (within _ m h) ws (line_vars m ws k)
entry-few entries.Pair ds m ws h fit k = known-few m ds h.first h.narrow (within _ m h) ws (line_vars m ws k)

words_few : (d : Due) (ds : List Due) (m : Memo) (ws : List Word) (s : Step) → Few (d ∷ ds) m → words_line E m ws d ≡ Ok s → Few (s.next ++ ds) s.memo
words_few (count c) ds m ws s h q =
    let t = count_taken c m ws s q in
    subst (λ z. Few (z.next ++ ds) z.memo) (sym t.2) (count_few m ds h.first h.narrow (within _ m h) c t.0 (count_back c t.0 ws t.1).2)
words_few kind ds m ws s h q =
    let t = kind_taken m ws s q in
    subst (λ z. Few (z.next ++ ds) z.memo) (sym t.2) (kind_few m ds h.first h.narrow (within _ m h) t.0)
words_few (entry e) ds m ws s h q =
    let t = entry-taken e m ws s q in
    subst (λ z. Few (z.next ++ ds) z.memo) (sym t.2) (entry-few e ds m ws h t.0 t.1)

by_few : (ds : List Due) (m : Memo) (ls : List Line) (y : Memo) → Few ds m → put_by ds m ls ≡ Ok y → length y.vars ≤ 32
by_few ds m [] y h q = let e : m ≡ y = cc (q) in subst (λ z. length z.vars ≤ 32) e (within ds m h)
by_few [] m (l ∷ ls) y h q = no_ok Lines y q
by_few (d ∷ ds) m (l ∷ ls) y h q =
    let t = more_line d ds m l ls y q in
    let s = t.0 in
    by_few (s.next ++ ds) s.memo ls y (words_few d ds m (words_at l.place l.bytes) s h t.2) t.3

pub few_variables : (ls : List Line) (m : Memo) → PutDownBy ls m → length m.vars ≤ 32
few_variables ls m q = by_few whole_text nothing ls m (record { first = refl; narrow = omega arith; few = omega arith }) q
