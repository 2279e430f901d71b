-- Reading lines in bounded places: as with endless room, or up to the line that finds no place.
use Rattle.std.proofs.Common.{◌≡◌, ℕ, zero, suc, ◌+◌, ◌<◌, ◌⊎◌, List, [], ◌∷◌, ◌++◌, length, take, Ok, Err, sym, refl, ap, ◌∙◌, subst, inl, inr, ⊎_elim, arith}
use Rattle.text.specs.Lines.{Line}
use Rattle.reader.specs.declared.fault.Cause.TheVariants.{Room, Lines}
use Rattle.reader.specs.Format.{Rooms, Memo, Out, Step, Due, then, read_line, follow, read_lines, nothing}
use Rattle.spelling.specs.Room.{put_by}
use Rattle.spelling.proofs.Endless.{E}
use Rattle.spelling.proofs.Lexical.{no_ok}
use Rattle.spelling.proofs.Refusals.{Refused}
use Rattle.spelling.proofs.Within.{inside_none, Good, TightLine, line_tight}

module _ (rooms : Rooms) where
  pub nothing-good : Good rooms nothing
  nothing-good = record { rules = inside_none rooms.rules; targets = inside_none rooms.targets; names = inside_none rooms.names; vars = inside_none rooms.vars }

  -- the line `at`, from 0 on, is the first that finds no place
  pub record Stops (n : ℕ) (ds : List Due) (m : Memo) (ls : List Line) : Type 0 where
    pub at : ℕ
    pub there : at < length ls
    pub refused : read_lines rooms n ds m ls ≡ Refused (n + at) Room
    pub before : Memo
    pub after : Memo
    pub put_before : put_by ds m (take at ls) ≡ Ok before
    pub put_after : put_by ds m (take (suc at) ls) ≡ Ok after
    pub fits : Good rooms before
    pub full : Good rooms after → ⊥

  -- as with endless room, and what the first lines put down has its places
  pub record Alike (n : ℕ) (ds : List Due) (m : Memo) (ls : List Line) : Type 0 where
    pub same : read_lines rooms n ds m ls ≡ read_lines E n ds m ls
    pub fits : (k : ℕ) (y : Memo) → put_by ds m (take k ls) ≡ Ok y → Good rooms y

  at_first : (ds : List Due) (m : Memo) → Good rooms m → (y : Memo) → put_by ds m [] ≡ Ok y → Good rooms y
  at_first ds m g y q = let e : m ≡ y = cc (q) in subst (Good rooms) e g

  at-end : (ds : List Due) (m : Memo) → Good rooms m → (k : ℕ) (y : Memo) → put_by ds m (take k []) ≡ Ok y → Good rooms y
  at-end ds m g zero y q = at_first ds m g y q
  at-end ds m g (suc k) y q = at_first ds m g y q

  at-line : (ds : List Due) (m : Memo) (l : Line) (ls : List Line) → Good rooms m → ((k : ℕ) (y : Memo) → put_by ds m (l ∷ take k ls) ≡ Ok y → Good rooms y) → (k : ℕ) (y : Memo) → put_by ds m (take k (l ∷ ls)) ≡ Ok y → Good rooms y
  at-line ds m l ls g more zero y q = at_first ds m g y q
  at-line ds m l ls g more (suc k) y q = more k y q

  pub lines_tight : (n : ℕ) (ds : List Due) (m : Memo) (ls : List Line) → Good rooms m → Alike n ds m ls ⊎ Stops n ds m ls
  lines_tight n [] m [] g = inl (record { same = refl; fits = at-end [] m g })
  lines_tight n (d ∷ ds) m [] g = inl (record { same = refl; fits = at-end (d ∷ ds) m g })
  lines_tight n [] m (l ∷ ls) g = inl (record { same = refl; fits = at-line [] m l ls g (λ k y q. no_ok Lines y q) })
  lines_tight n (d ∷ ds) m (l ∷ ls) g = on (read_line E m l d) refl (line_tight rooms m l d g) (λ s h. lines_tight (suc n) (s.next ++ ds) s.memo ls h)
    where
      on : (e : Out Step) → read_line E m l d ≡ e → TightLine rooms (read_line rooms m l d) e → ((s : Step) → Good rooms s.memo → Alike (suc n) (s.next ++ ds) s.memo ls ⊎ Stops (suc n) (s.next ++ ds) s.memo ls) → Alike n (d ∷ ds) m (l ∷ ls) ⊎ Stops n (d ∷ ds) m (l ∷ ls)
      on (Err x) e t again = inl (record {
        same = ap (λ o. follow n o (λ s. read_lines rooms (suc n) (s.next ++ ds) s.memo ls)) t ∙ sym (ap (λ o. follow n o (λ s. read_lines E (suc n) (s.next ++ ds) s.memo ls)) e);
        fits = at-line (d ∷ ds) m l ls g (λ k y q. no_ok x y (sym (ap (λ o. then o (λ s. put_by (s.next ++ ds) s.memo (take k ls))) e) ∙ q));
      })
      on (Ok s) e (inr (t, full)) again = inr (record {
        at = 0;
        there = omega arith;
        refused = ap (λ o. follow n o (λ s'. read_lines rooms (suc n) (s'.next ++ ds) s'.memo ls)) t ∙ ap (λ i. Refused i Room) (let z : n ≡ n + 0 = omega arith in z);
        before = m;
        after = s.memo;
        put_before = refl;
        put_after = ap (λ o. then o (λ s'. put_by (s'.next ++ ds) s'.memo [])) e;
        fits = g;
        full = full;
      })
      on (Ok s) e (inl (t, h)) again =
          let in-places = ap (λ o. follow n o (λ s'. read_lines rooms (suc n) (s'.next ++ ds) s'.memo ls)) t in
          let in_all = ap (λ o. follow n o (λ s'. read_lines E (suc n) (s'.next ++ ds) s'.memo ls)) e in
          ⊎_elim
          (λ a. inl (record { same = in-places ∙ a.same ∙ sym in_all; fits = at-line (d ∷ ds) m l ls g (λ k y q. a.fits k y (sym (ap (λ o. then o (λ s'. put_by (s'.next ++ ds) s'.memo (take k ls))) e) ∙ q)) }))
          (λ r. inr (record {
            at = suc r.at;
            there = (let b = r.there in omega arith);
            refused = in-places ∙ r.refused ∙ ap (λ i. Refused i Room) (let z : suc n + r.at ≡ n + suc r.at = omega arith in z);
            before = r.before;
            after = r.after;
            put_before = ap (λ o. then o (λ s'. put_by (s'.next ++ ds) s'.memo (take r.at ls))) e ∙ r.put_before;
            put_after = ap (λ o. then o (λ s'. put_by (s'.next ++ ds) s'.memo (take (suc r.at) ls))) e ∙ r.put_after;
            fits = r.fits;
            full = r.full;
          }))
          (again s h)
