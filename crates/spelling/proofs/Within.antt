-- Reading a line in bounded places: as with endless room if what is put down stays within them, else no place is left.
use Rattle.std.proofs.Common.{◌≡◌, ℕ, ◌+◌, ◌≤◌, Bool, true, false, cond, ltb, ◌⊎◌, List, [], ◌∷◌, ◌++◌, length, Ok, Err, sym, refl, ap, ◌∙◌, subst, inl, inr, ⊎_elim, arith, length-append}
use Rattle.std.proofs.lemmas.Bool.{cases_Bool, cond-true, cond-false, ltb-true, ltb-false}
use Rattle.text.specs.Lines.{Line, clean}
use Rattle.text.specs.Words.{Word, words_at, is_variable}
use Rattle.rules.specs.Books.{base}
use Rattle.sheets.specs.Layout.{kind_word}
use Rattle.reader.specs.declared.fault.Cause.{Cause}
use Rattle.reader.specs.declared.fault.Cause.TheVariants.{Byte, Form, Unknown, Room}
use Rattle.reader.specs.declared.desk.Counting.{Counting}
use Rattle.reader.specs.declared.desk.Counting.TheVariants as counting
use Rattle.reader.specs.declared.desk.Part.{Part}
use Rattle.reader.specs.declared.desk.Part.TheVariants as parts
use Rattle.reader.specs.Format.{Limit, places, endless, Rooms, Memo, Out, Step, Due, count, kind, entry, then, pushed, seen_in, seen_with, number_of, with_width, with_names, with_vars, in_targets, put_in, put_word, put_term, put_terms, put_count, count_line, kind_line, shaped, known, after_count, after_kind, words_line, read_line}
use Rattle.spelling.specs.Draft.{add, extend_in, extend, put, puts, put_number}
use Rattle.spelling.specs.Room.{Begins}
use Rattle.spelling.proofs.Endless.{E, word_e, terms_e, count_e}
use Rattle.spelling.proofs.Facts.{ext_names, ext_vars, puts-facts}
use Rattle.spelling.proofs.Fronts.{front_length, extend-begins, puts-begins}

-- so many have a place
abbrev pub Inside : Limit → ℕ → Type 0
Inside (places k) n = n ≤ k
Inside endless n = Unit {0}

inside_less : (r : Limit) (a b : ℕ) → a ≤ b → Inside r b → Inside r a
inside_less (places k) a b h i = omega arith
inside_less endless a b h i = tt

pub inside_none : (r : Limit) → Inside r 0
inside_none (places k) = omega arith
inside_none endless = tt

-- o is done and the list xs has a place, or there is no place for it
abbrev TightList : {X : Type 0} → Limit → Out (List X) → List X → Type 0
TightList r o xs = ((o ≡ Ok xs) × Inside r (length xs)) ⊎ ((o ≡ Err Room) × (Inside r (length xs) → ⊥))

push_tight : {X : Type 0} (r : Limit) (xs : List X) (x : X) → TightList r (pushed r xs x) (xs ++ x ∷ [])
push_tight (places k) xs x =
    let l = length-append xs (x ∷ []) in
    ⊎_elim
    (λ t. let h = ltb-true (length xs) k t in inl (cond-true (ltb (length xs) k) _ _ t, (let i : length (xs ++ x ∷ []) ≤ k = omega arith in i)))
    (λ t. let h = ltb-false (length xs) k t in inr (cond-false (ltb (length xs) k) _ _ t, (λ i. omega arith)))
    (cases_Bool (ltb (length xs) k))
push_tight endless xs x = inl (refl, tt)

seen-tight : (r : Limit) (seen : List Word) (w : Word) → Inside r (length seen) → TightList r (seen_with r seen w) (add seen w)
seen-tight r seen w h = elim (seen_in seen w) as (λ t. TightList r (cond t (Ok seen) (pushed r seen w)) (cond t seen (seen ++ w ∷ []))) [ true ↦ inl (refl, h) | false ↦ push_tight r seen w ]

module _ (rooms : Rooms) where
  -- all that is put down has a place
  pub record Good (m : Memo) : Type 0 where
    pub rules : Inside rooms.rules (length m.rules)
    pub targets : Inside rooms.targets (length m.targets)
    pub names : Inside rooms.names (length m.names)
    pub vars : Inside rooms.vars (length m.vars)

  pub good_less : (m n : Memo) → Begins m n → length m.vars ≤ length n.vars → Good n → Good m
  good_less m n b v g = record {
    rules = inside_less rooms.rules (length m.rules) (length n.rules) (front_length m.rules n.rules b.rules) g.rules;
    targets = inside_less rooms.targets (length m.targets) (length n.targets) (front_length m.targets n.targets b.targets) g.targets;
    names = inside_less rooms.names (length m.names) (length n.names) (front_length m.names n.names b.names) g.names;
    vars = inside_less rooms.vars (length m.vars) (length n.vars) v g.vars;
  }

  -- o is done and y has a place, or there is no place for it
  abbrev Tight : Out Memo → Memo → Type 0
  Tight o y = ((o ≡ Ok y) × Good y) ⊎ ((o ≡ Err Room) × (Good y → ⊥))

  then-tight : (o : Out Memo) (f : Memo → Out Memo) (y z : Memo) → Tight o y → (Good y → Tight (f y) z) → (Good z → Good y) → Tight (then o f) z
  then-tight o f y z (inl (q, g)) h back = subst (λ p. Tight (then p f) z) (sym q) (h g)
  then-tight o f y z (inr (q, none)) h back = inr (ap (λ p. then p f) q, (λ g. none (back g)))

  -- after a list that gets one more
  list_then : {X : Type 0} (o : Out (List X)) (f : List X → Out Memo) (r : Limit) (xs : List X) (y : Memo) → TightList r o xs → (Inside r (length xs) → Tight (f xs) y) → (Good y → Inside r (length xs)) → Tight (then o f) y
  list_then o f r xs y (inl (q, i)) h back = subst (λ p. Tight (then p f) y) (sym q) (h i)
  list_then o f r xs y (inr (q, none)) h back = inr (ap (λ p. then p f) q, (λ g. none (back g)))

  in_tight : (m : Memo) (x : ℕ) (p : Part) → Good m → Tight (put_in rooms m x p) (extend_in m (x ∷ []) p)
  in_tight m x parts.Rules g =
      list_then (pushed rooms.rules m.rules x) (λ s. Ok (record { width = m.width; part = m.part; rules = s; targets = m.targets; names = m.names; vars = m.vars })) rooms.rules (m.rules ++ x ∷ []) (extend_in m (x ∷ []) parts.Rules) (push_tight rooms.rules m.rules x)
      (λ i. inl (refl, record { rules = i; targets = g.targets; names = g.names; vars = g.vars }))
      (λ h. h.rules)
  in_tight m x parts.Targets g =
      list_then (pushed rooms.targets m.targets x) (λ s. Ok (record { width = m.width; part = m.part; rules = m.rules; targets = s; names = m.names; vars = m.vars })) rooms.targets (m.targets ++ x ∷ []) (extend_in m (x ∷ []) parts.Targets) (push_tight rooms.targets m.targets x)
      (λ i. inl (refl, record { rules = g.rules; targets = i; names = g.names; vars = g.vars }))
      (λ h. h.targets)

  word_tight : (m : Memo) (x : ℕ) → Good m → Tight (put_word rooms m x) (extend m (x ∷ []))
  word_tight m x g = in_tight m x m.part g

  variable_tight : (m : Memo) (w : Word) (x : ℕ) → Good m → Tight (then (seen_with rooms.vars m.vars w) (λ vs. put_word rooms (with_vars m vs) x)) (extend (with_vars m (add m.vars w)) (x ∷ []))
  variable_tight m w x g =
      let k = with_vars m (add m.vars w) in
      list_then (seen_with rooms.vars m.vars w) (λ vs. put_word rooms (with_vars m vs) x) rooms.vars (add m.vars w) (extend k (x ∷ [])) (seen-tight rooms.vars m.vars w g.vars)
      (λ i. word_tight k x (record { rules = g.rules; targets = g.targets; names = g.names; vars = i }))
      (λ h. subst (λ vs. Inside rooms.vars (length vs)) (ext_vars k (x ∷ []) m.part) h.vars)

  constant_tight : (m : Memo) (w : Word) (x : ℕ) → Good m → Tight (then (seen_with rooms.names m.names w) (λ ns. put_word rooms (with_names m ns) x)) (extend (with_names m (add m.names w)) (x ∷ []))
  constant_tight m w x g =
      let k = with_names m (add m.names w) in
      list_then (seen_with rooms.names m.names w) (λ ns. put_word rooms (with_names m ns) x) rooms.names (add m.names w) (extend k (x ∷ [])) (seen-tight rooms.names m.names w g.names)
      (λ i. word_tight k x (record { rules = g.rules; targets = g.targets; names = i; vars = g.vars }))
      (λ h. subst (λ ns. Inside rooms.names (length ns)) (ext_names k (x ∷ []) m.part) h.names)

  cond-tight : (t : Bool) (a b : Out Memo) (y z : Memo) → Tight a y → Tight b z → Tight (cond t a b) (cond t y z)
  cond-tight true a b y z h k = h
  cond-tight false a b y z h k = k

  term_tight : (m : Memo) (w : Word) → Good m → Tight (put_term rooms m w) (put m w)
  term_tight m w g = cond-tight (is_variable w.bytes) _ _ _ _ (variable_tight m w (base + number_of m.vars w) g) (constant_tight m w (number_of m.names w) g)

  terms_tight : (m : Memo) (ws : List Word) → Good m → Tight (put_terms rooms m ws) (puts m ws)
  terms_tight m [] g = inl (refl, g)
  terms_tight m (w ∷ ws) g =
      let k = put m w in
      then-tight (put_term rooms m w) (λ n. put_terms rooms n ws) k (puts k ws) (term_tight m w g) (λ h. terms_tight k ws h) (good_less k (puts k ws) (puts-begins k ws) (puts-facts k ws).vars)

  -- two words, one after the other
  two_tight : (m : Memo) (x y : ℕ) → Good m → Tight (then (put_word rooms m x) (λ k. put_word rooms k y)) (extend (extend m (x ∷ [])) (y ∷ []))
  two_tight m x y g =
      let k = extend m (x ∷ []) in
      let v = ap length (ext_vars k (y ∷ []) k.part) in
      then-tight (put_word rooms m x) (λ k'. put_word rooms k' y) k (extend k (y ∷ [])) (word_tight m x g) (λ h. word_tight k y h) (good_less k (extend k (y ∷ [])) (extend-begins k (y ∷ [])) (omega arith))

  count_tight : (m : Memo) (n : ℕ) (c : Counting) → Good m → Tight (put_count rooms m n c) (put_number m n c)
  count_tight m n counting.Width g = word_tight (with_width m n) n (record { rules = g.rules; targets = g.targets; names = g.names; vars = g.vars })
  count_tight m n counting.Rules g = word_tight m n g
  count_tight m n counting.Targets g = two_tight (in_targets m) m.width n (record { rules = g.rules; targets = g.targets; names = g.names; vars = g.vars })
  count_tight m n counting.Rows g = word_tight (with_vars m []) n (record { rules = g.rules; targets = g.targets; names = g.names; vars = inside_none rooms.vars })
  count_tight m n counting.Left g = word_tight m n g
  count_tight m n counting.Right g = word_tight m n g
  count_tight m n counting.Pairs g = two_tight m 0 n g

  -- Of a line: o is what bounded places make of what endless room makes of it.
  abbrev pub TightLine : Out Step → Out Step → Type 0
  TightLine o (Ok s) = ((o ≡ Ok s) × Good s.memo) ⊎ ((o ≡ Err Room) × (Good s.memo → ⊥))
  TightLine o (Err e) = o ≡ Err e

  line_then : {A : Type 0} (a : Out A) (f g : A → Out Step) → ((x : A) → TightLine (f x) (g x)) → TightLine (then a f) (then a g)
  line_then (Ok x) f g h = h x
  line_then (Err e) f g h = refl

  line_cond : (t : Bool) (a b : Out Step) (e : Cause) → TightLine a b → TightLine (cond t a (Err e)) (cond t b (Err e))
  line_cond true a b e h = h
  line_cond false a b e h = refl

  -- what is put down, and then due
  put-line : (next : List Due) (o p : Out Memo) (y : Memo) → p ≡ Ok y → Tight o y → TightLine (then o (λ k. Ok (record { next = next; memo = k }))) (then p (λ k. Ok (record { next = next; memo = k })))
  put-line next o p y e t = subst (λ z. TightLine (then o (λ k. Ok (record { next = next; memo = k }))) (then z (λ k. Ok (record { next = next; memo = k })))) (sym e)
      (⊎_elim (λ h. inl (ap (λ z. then z (λ k. Ok (record { next = next; memo = k }))) h.0, h.1)) (λ h. inr (ap (λ z. then z (λ k. Ok (record { next = next; memo = k }))) h.0, h.1)) t)

  then-cond : (t : Bool) (a : Out Memo) (e : Cause) (f : Memo → Out Step) → then (cond t a (Err e)) f ≡ cond t (then a f) (Err e)
  then-cond true a e f = refl
  then-cond false a e f = refl

  words_tight : (m : Memo) (ws : List Word) (d : Due) → Good m → TightLine (words_line rooms m ws d) (words_line E m ws d)
  words_tight m ws (count c) g = line_then (count_line c ws) _ _ (λ n. put-line (after_count c n) (put_count rooms m n c) (put_count E m n c) (put_number m n c) (count_e m n c) (count_tight m n c g))
  words_tight m ws kind g = line_then (kind_line ws) _ _ (λ k. put-line (after_kind k) (put_word rooms m (kind_word k)) (put_word E m (kind_word k)) (extend m (kind_word k ∷ [])) (word_e m (kind_word k)) (word_tight m (kind_word k) g))
  words_tight m ws (entry e) g =
      let f : Memo → Out Step = λ k. Ok (record { next = []; memo = k }) in
      let through : (o : Out Memo) → then (cond (shaped m.width ws e) (cond (known m.vars ws e) o (Err Unknown)) (Err Form)) f ≡ cond (shaped m.width ws e) (cond (known m.vars ws e) (then o f) (Err Unknown)) (Err Form) = λ o.
      then-cond (shaped m.width ws e) (cond (known m.vars ws e) o (Err Unknown)) Form f ∙ ap (λ z. cond (shaped m.width ws e) z (Err Form)) (then-cond (known m.vars ws e) o Unknown f) in
      let put = put-line [] (put_terms rooms m ws) (put_terms E m ws) (puts m ws) (terms_e m ws) (terms_tight m ws g) in
      subst (λ z. TightLine z (words_line E m ws (entry e))) (sym (through (put_terms rooms m ws)))
      (subst (TightLine _) (sym (through (put_terms E m ws)))
      (line_cond (shaped m.width ws e) _ _ Form (line_cond (known m.vars ws e) _ _ Unknown put)))

  pub line_tight : (m : Memo) (l : Line) (d : Due) → Good m → TightLine (read_line rooms m l d) (read_line E m l d)
  line_tight m l d g = line_cond (clean l.bytes) _ _ Byte (words_tight m (words_at l.place l.bytes) d g)
