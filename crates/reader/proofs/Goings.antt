-- One line at a time, and one call after another.
use Rattle.std.proofs.Common.{◌≡◌, ℕ, zero, suc, ◌+◌, ◌-◌, ◌<◌, true, false, List, [], ◌∷◌, ◌++◌, length, drop, replicate, Ok, Err, Result, MatchResult, sym, refl, ap, ◌∙◌, subst, add-one, arith}
use Rattle.std.specs.Borrow.{MutBor}
use Rattle.std.specs.List.{prefix_len}
use Rattle.text.proofs.Split.{line_next}
use Rattle.std.proofs.lemmas.Bool.{cond-true, cond-false}
use Rattle.text.specs.Lines.{clean, lines_from, line_at, in_line}
use Rattle.text.specs.Words.{line_words}
use Rattle.text.specs.declared.list.Places.{Places}
use Rattle.reader.specs.declared.fault.Cause.{Cause}
use Rattle.reader.specs.declared.fault.Cause.TheVariants.{Byte, Lines}
use Rattle.reader.specs.declared.fault.ReadFault.{ReadFault}
use Rattle.reader.specs.declared.desk.Desk.{Desk}
use Rattle.reader.specs.Format.{places, Rooms, Memo, Due, Step, Out, words_line, follow, read_lines}
use Rattle.reader.specs.Held.{Stays, Sames, Answers, held, rooms_of, words_to, stepped}
use Rattle.reader.specs.Goes.{going, Takes}
use Rattle.reader.proofs.Numbered.{room-same}

module _ (rooms : Rooms) (n : ℕ) (m : Memo) (d : Due) (ds : List Due) (t : List ℕ) (from end : ℕ) (e : lines_from t from ≡ line_at t from end ∷ lines_from t (end + 1)) where
  abbrev on : Step → Result Memo ReadFault
  on s = read_lines rooms (suc n) (s.next ++ ds) s.memo (lines_from t (end + 1))

  pub line_dirty : clean (line_at t from end).bytes ≡ false → read_lines rooms n (d ∷ ds) m (lines_from t from) ≡ Err (record { cause = Byte; line = n })
  line_dirty c = ap (read_lines rooms n (d ∷ ds) m) e ∙ ap (λ o. follow n o on) (cond-false (clean (line_at t from end).bytes) (words_line rooms m (line_words t from end) d) (Err Byte) c)

  line_clean : clean (line_at t from end).bytes ≡ true → (o : Out Step) → words_line rooms m (line_words t from end) d ≡ o → read_lines rooms n (d ∷ ds) m (lines_from t from) ≡ follow n o on
  line_clean c o h = ap (read_lines rooms n (d ∷ ds) m) e ∙ ap (λ x. follow n x on) (cond-true (clean (line_at t from end).bytes) (words_line rooms m (line_words t from end) d) (Err Byte) c ∙ h)

  pub line_taken : clean (line_at t from end).bytes ≡ true → (next : List Due) (k : Memo) → words_line rooms m (line_words t from end) d ≡ Ok (stepped next k) → read_lines rooms n (d ∷ ds) m (lines_from t from) ≡ read_lines rooms (n + 1) (next ++ ds) k (lines_from t (end + 1))
  line_taken c next k h = line_clean c (Ok (stepped next k)) h ∙ ap (λ i. read_lines rooms i (next ++ ds) k (lines_from t (end + 1))) (sym (add-one n))

  pub line_refused : clean (line_at t from end).bytes ≡ true → (x : Cause) → words_line rooms m (line_words t from end) d ≡ Err x → read_lines rooms n (d ∷ ds) m (lines_from t from) ≡ Err (record { cause = x; line = n })
  line_refused c x h = line_clean c (Err x) h

pub rooms_same : {d e : Desk} → Sames d e → rooms_of e ≡ rooms_of d
rooms_same h =
    let a = room-same h.rules.places in
    let b = room-same h.targets.places in
    let c = room-same h.names.places in
    let v = room-same h.vars.places in
    (λ i. record { rules = places (a i); targets = places (b i); names = places (c i); vars = places (v i) })

stays_trans : {T : Type 0} {a b c : MutBor (Places T)} → Stays a b → Stays b c → Stays a c
stays_trans x y = record { list = y.list ∙ x.list; places = record { lent = y.places.lent ∙ x.places.lent; size = y.places.size ∙ x.places.size } }

pub sames_trans : {a b c : Desk} → Sames a b → Sames b c → Sames a c
sames_trans x y = record { text = y.text ∙ x.text; rules = stays_trans x.rules y.rules; targets = stays_trans x.targets y.targets; names = stays_trans x.names y.names; vars = stays_trans x.vars y.vars }

-- what words do that are taken or refused, the line does
pub line_takes : {A : Type 0} (r : Result A Cause) (s : Result A ReadFault) (due : Due) (next : A → List Due) (d m e : Desk) (end : ℕ)
    → clean (line_at d.text.now d.at.from end).bytes ≡ true
    → lines_from d.text.now d.at.from ≡ line_at d.text.now d.at.from end ∷ lines_from d.text.now (end + 1)
    → Answers r d m (words_line (rooms_of d) (held d) (words_to d end) due) (λ x. stepped (next x) (held m))
    → Sames m e → held e ≡ held m
    → MatchResult s (λ x. (r ≡ Ok x) × (e.at.from ≡ end + 1) × (e.at.line ≡ m.at.line + 1)) (λ f. (r ≡ Err f.cause) × (f.line ≡ m.at.line))
    → Takes s d e (due ∷ []) next
line_takes {A} r (Ok x) due next d m e end c l a sames h told =
    let said : words_line (rooms_of d) (held d) (words_to d end) due ≡ Ok (stepped (next x) (held m)) = (subst (λ q. Answers q d m (words_line (rooms_of d) (held d) (words_to d end) due) (λ y. stepped (next y) (held m))) told.0 a).is in
    let text : d.text ≡ e.text = sym (sames.text ∙ a.same.text) in
    let line : d.at.line + 1 ≡ e.at.line = sym (told.2 ∙ ap (λ k. k.line + 1) a.at) in
    let from : end + 1 ≡ e.at.from = sym told.1 in
    let memo : held m ≡ held e = sym h in
    record {
      same = sames_trans a.same sames;
      goes = λ rooms q ds. line_taken rooms d.at.line (held d) due ds d.text.now d.at.from end l c (next x) (held m) (ap (λ k. words_line k (held d) (words_to d end) due) q ∙ said)
          ∙ (λ i. read_lines rooms (line i) (next x ++ ds) (memo i) (lines_from (text i).now (from i)));
    }
line_takes {A} r (Err f) due next d m e end c l a sames h told =
    let said : words_line (rooms_of d) (held d) (words_to d end) due ≡ Err f.cause = (subst (λ q. Answers q d m (words_line (rooms_of d) (held d) (words_to d end) due) (λ y. stepped (next y) (held m))) told.0 a).is in
    let line : d.at.line ≡ f.line = sym (told.1 ∙ ap (λ k. k.line) a.at) in
    record {
      same = sames_trans a.same sames;
      goes = λ rooms q ds. line_refused rooms d.at.line (held d) due ds d.text.now d.at.from end l c f.cause (ap (λ k. words_line k (held d) (words_to d end) due) q ∙ said)
          ∙ (λ i. Err (record { cause = f.cause; line = line i }));
    }

-- of n that were due first, the call that went from d to e has left k
pub record Left (x : Due) (n k : ℕ) (d e : Desk) : Type 0 where
  pub same : Sames d e
  pub goes : (rooms : Rooms) → rooms ≡ rooms_of d → (ds : List Due) → going rooms d (replicate n x ++ ds) ≡ going rooms e (replicate k x ++ ds)

-- the first of many
one_more : {X : Type 0} (k : ℕ) (x : X) → 0 < k → replicate k x ≡ x ∷ replicate (k - 1) x
one_more zero x h = absurd (omega arith)
one_more (suc k) x h = let e : k ≡ suc k - 1 = omega arith in ap (λ j. x ∷ replicate j x) e

module _ (x : Due) (n k : ℕ) (d e f : Desk) (so : Left x n k d e) (some : 0 < k) where
  -- one more is taken, or refused
  pub left_less : (j : ℕ) → j ≡ k - 1 → Takes {A = Unit {0}} (Ok tt) e f (x ∷ []) (λ u. []) → Left x n j d f
  left_less j h t = record {
    same = sames_trans so.same t.same;
    goes = λ rooms q ds. so.goes rooms q ds ∙ ap (λ xs. going rooms e (xs ++ ds)) (one_more k x some) ∙ t.goes rooms (q ∙ sym (rooms_same so.same)) (replicate (k - 1) x ++ ds) ∙ ap (λ i. going rooms f (replicate i x ++ ds)) (sym h);
  }

  pub left_refused : (r : Result (Unit {0}) ReadFault) (y : ReadFault) → r ≡ Err y → Takes {A = Unit {0}} (Err y) e f (x ∷ []) (λ u. []) → Takes r d f (replicate n x) (λ u. [])
  left_refused r y is t = subst (λ s. Takes s d f (replicate n x) (λ u. [])) (sym is) (record {
    same = sames_trans so.same t.same;
    goes = λ rooms q ds. so.goes rooms q ds ∙ ap (λ xs. going rooms e (xs ++ ds)) (one_more k x some) ∙ t.goes rooms (q ∙ sym (rooms_same so.same)) (replicate (k - 1) x ++ ds);
  })

pub left_none : (x : Due) (n k : ℕ) (d e : Desk) → Left x n k d e → k ≡ 0 → Takes {A = Unit {0}} (Ok tt) d e (replicate n x) (λ u. [])
left_none x n k d e so none = record { same = so.same; goes = λ rooms q ds. so.goes rooms q ds ∙ ap (λ j. going rooms e (replicate j x ++ ds)) none }

-- what is due next is taken by the next call
pub then_takes : {A B : Type 0} (x : A) (due mid : List Due) (next : A → List Due) (last : B → List Due) (r : Result B ReadFault) (d e f : Desk) → Takes (Ok x) d e due next → next x ≡ mid → Takes r e f mid last → Takes r d f due last
then_takes x due mid next last (Ok y) d e f a h b = record {
  same = sames_trans a.same b.same;
  goes = λ rooms q ds. a.goes rooms q ds ∙ ap (λ xs. going rooms e (xs ++ ds)) h ∙ b.goes rooms (q ∙ sym (rooms_same a.same)) ds;
}
then_takes x due mid next last (Err y) d e f a h b = record {
  same = sames_trans a.same b.same;
  goes = λ rooms q ds. a.goes rooms q ds ∙ ap (λ xs. going rooms e (xs ++ ds)) h ∙ b.goes rooms (q ∙ sym (rooms_same a.same)) ds;
}

-- one call takes the first of what is due, and the next call the others
pub both_take : (due : Due) (more : List Due) (r : Result (Unit {0}) ReadFault) (d e f : Desk) → Takes {A = Unit {0}} (Ok tt) d e (due ∷ []) (λ u. []) → Takes r e f more (λ u. []) → Takes r d f (due ∷ more) (λ u. [])
both_take due more (Ok u) d e f a b = record {
  same = sames_trans a.same b.same;
  goes = λ rooms q ds. a.goes rooms q (more ++ ds) ∙ b.goes rooms (q ∙ sym (rooms_same a.same)) ds;
}
both_take due more (Err y) d e f a b = record {
  same = sames_trans a.same b.same;
  goes = λ rooms q ds. a.goes rooms q (more ++ ds) ∙ b.goes rooms (q ∙ sym (rooms_same a.same)) ds;
}

module _ (rooms : Rooms) (n : ℕ) (m : Memo) (t : List ℕ) (from : ℕ) where
  pub surplus : from < length t → read_lines rooms n [] m (lines_from t from) ≡ Err (record { cause = Lines; line = n })
  surplus h = ap (read_lines rooms n [] m) (line_next t from (from + prefix_len in_line (drop from t)) h refl)
