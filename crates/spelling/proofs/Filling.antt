-- The laws of room.
use Rattle.std.proofs.Common.{◌≡◌, ℕ, suc, ◌+◌, ◌-◌, ◌<◌, ◌≤◌, Bool, true, false, cond, leb, ◌⊎◌, List, length, take, Ok, Err, sym, refl, ap, ◌∙◌, subst, inl, inr, ⊎_elim, le_trans, arith}
use Rattle.std.proofs.lemmas.List.{take_all}
use Rattle.std.proofs.lemmas.Bool.{cond-true, cond-false, cases_lt, le-leb, lt-leb, leb-true, leb-false}
use Rattle.text.specs.Lines.{Line, lines_at}
use Rattle.reader.specs.declared.fault.Cause.TheVariants.{Room}
use Rattle.reader.specs.declared.fault.ReadFault.{ReadFault}
use Rattle.reader.specs.Format.{Memo, read_lines, whole_text, nothing, read_text}
use Rattle.reader.specs.Reads.{Lengths, rooms_in}
use Rattle.spelling.specs.Draft.{Draft, Spells, put_down}
use Rattle.spelling.specs.Exactly.{ReadFits, FittingReads, RefusedRoom}
use Rattle.spelling.specs.Room.{FitsIn, put_by, PutDownBy, Begins, FullAt, NoRoom}
use Rattle.spelling.proofs.Endless.{E}
use Rattle.spelling.proofs.Fronts.{front_length, fronts, read-put}
use Rattle.spelling.proofs.Lexical.{no_ok, cond_ok}
use Rattle.spelling.proofs.Places.{Stops}
use Rattle.spelling.proofs.Refusals.{Refused, same_cause, same_line, never_full}
use Rattle.spelling.proofs.Theorems.{lines_in, spelled_text}
use Rattle.spelling.proofs.Variables.{few_variables}
use Rattle.spelling.proofs.Within.{Good}

-- what is read of all lines, they put down
whole : (ls : List Line) (y : Memo) → read_lines E 1 whole_text nothing ls ≡ Ok y → PutDownBy (take (length ls) ls) y
whole ls y q = ap (put_by whole_text nothing) (take_all (length ls) ls (omega arith)) ∙ read-put 1 whole_text nothing ls y q

module _ (lent : Lengths) where
  good_fits : (m : Memo) → Good (rooms_in lent) m → FitsIn lent m
  good_fits m g = record { rules = g.rules; targets = g.targets; names = g.names }

  fits-good : (m : Memo) → length m.vars ≤ 32 → FitsIn lent m → Good (rooms_in lent) m
  fits-good m few f = record { rules = f.rules; targets = f.targets; names = f.names; vars = few }

  fits-less : (m n : Memo) → Begins m n → FitsIn lent n → FitsIn lent m
  fits-less m n b f = record {
    rules = le_trans (front_length m.rules n.rules b.rules) f.rules;
    targets = le_trans (front_length m.targets n.targets b.targets) f.targets;
    names = le_trans (front_length m.names n.names b.names) f.names;
  }

  -- where a line finds no place, what is put down with it does not fit in
  stopped : (text : List ℕ) (r : Stops (rooms_in lent) 1 whole_text nothing (lines_at 0 text)) → FitsIn lent r.after → ⊥
  stopped text r f = r.full (fits-good r.after (few_variables (take (suc r.at) (lines_at 0 text)) r.after r.put_after) f)

  -- nor does what the whole text puts down
  overfull : (text : List ℕ) (d : Draft) (r : Stops (rooms_in lent) 1 whole_text nothing (lines_at 0 text)) → Spells text d → FitsIn lent (put_down d) → ⊥
  overfull text d r h f =
      let all = whole (lines_at 0 text) (put_down d) (spelled_text 1 text d h) in
      stopped text r (fits-less r.after (put_down d) (fronts (suc r.at) (length (lines_at 0 text)) (lines_at 0 text) r.after (put_down d) r.there r.put_after all) f)

pub fitting_reads : FittingReads
fitting_reads lent text d short h f =
    cond-true (leb (length text) 65536) (read_lines (rooms_in lent) 1 whole_text nothing (lines_at 0 text)) (Refused 0 Room) (le-leb _ _ short)
    ∙ ⊎_elim (λ a. a.same ∙ spelled_text 1 text d h) (λ r. absurd (overfull lent text d r h f)) (lines_in (rooms_in lent) text)

pub read_fits : ReadFits
read_fits lent text m q =
    let rooms = rooms_in lent in
    let c = cond_ok (leb (length text) 65536) (read_lines rooms 1 whole_text nothing (lines_at 0 text)) (record { cause = Room; line = 0 }) m q in (
      leb-true _ _ c.0,
      ⊎_elim
          (λ a. good_fits lent m (a.fits (length (lines_at 0 text)) m (whole (lines_at 0 text) m (sym a.same ∙ c.1))))
          (λ r. no_ok (record { cause = Room; line = 1 + r.at }) m (sym r.refused ∙ c.1))
          (lines_in rooms text),
    )

why_room : (lent : Lengths) (text : List ℕ) (n : ℕ) → read_text (rooms_in lent) text ≡ Refused n Room → NoRoom text lent n
why_room lent text n q = by (leb (length text) 65536) refl q
  where
    full : length text ≤ 65536 → Stops (rooms_in lent) 1 whole_text nothing (lines_at 0 text) → read_lines (rooms_in lent) 1 whole_text nothing (lines_at 0 text) ≡ Refused n Room → FullAt text lent n
    full short r e =
        let at : 1 + r.at ≡ n = same_line (1 + r.at) n Room Room (sym r.refused ∙ e) in
        let last : r.at ≡ n - 1 = omega arith in
        let all : suc r.at ≡ n = omega arith in
        let there = r.there in
        record {
          short = short;
          some = omega arith;
          there = omega arith;
          before = r.before;
          after = r.after;
          put_before = subst (λ i. PutDownBy (take i (lines_at 0 text)) r.before) last r.put_before;
          put_after = subst (λ i. PutDownBy (take i (lines_at 0 text)) r.after) all r.put_after;
          fits = good_fits lent r.before r.fits;
          full = stopped lent text r;
        }

    by : (t : Bool) → leb (length text) 65536 ≡ t → cond t (read_lines (rooms_in lent) 1 whole_text nothing (lines_at 0 text)) (Refused 0 Room) ≡ Refused n Room → NoRoom text lent n
    by true t e = ⊎_elim (λ a. absurd (never_full 1 n whole_text nothing (lines_at 0 text) (sym a.same ∙ e))) (λ r. inr (full (leb-true _ _ t) r e)) (lines_in (rooms_in lent) text)
    by false t e = inl (sym (same_line 0 n Room Room e), leb-false (length text) 65536 t)

-- where both stop
stops_at : (lent : Lengths) (text : List ℕ) (n : ℕ) → FullAt text lent n → (r : Stops (rooms_in lent) 1 whole_text nothing (lines_at 0 text)) → 1 + r.at ≡ n
stops_at lent text n f r = ⊎_elim
    (λ early. absurd (stopped lent text r (fits-less lent r.after f.before (fronts (suc r.at) (n - 1) (lines_at 0 text) r.after f.before (omega arith) r.put_after f.put_before) f.fits)))
    (λ late. ⊎_elim
    (λ no-later. let some = f.some in omega arith)
    (λ later. absurd (f.full (fits-less lent f.after r.before (fronts n r.at (lines_at 0 text) f.after r.before later f.put_after r.put_before) (good_fits lent r.before r.fits))))
    (cases_lt r.at n))
    (cases_lt (1 + r.at) n)

room-why : (lent : Lengths) (text : List ℕ) (n : ℕ) → NoRoom text lent n → read_text (rooms_in lent) text ≡ Refused n Room
room-why lent text n (inl (z, long)) = cond-false (leb (length text) 65536) (read_lines (rooms_in lent) 1 whole_text nothing (lines_at 0 text)) (Refused 0 Room) (lt-leb _ _ long) ∙ ap (λ i. Refused i Room) (sym z)
room-why lent text n (inr f) =
    cond-true (leb (length text) 65536) (read_lines (rooms_in lent) 1 whole_text nothing (lines_at 0 text)) (Refused 0 Room) (le-leb _ _ f.short)
    ∙ ⊎_elim (λ a. absurd (f.full (good_fits lent f.after (a.fits n f.after f.put_after)))) (λ r. r.refused ∙ ap (λ i. Refused i Room) (stops_at lent text n f r)) (lines_in (rooms_in lent) text)

pub refused-room : RefusedRoom
refused-room lent text n = (why_room lent text n, room-why lent text n)

-- a text that spells something is refused for want of room alone
pub spelled_refused : (lent : Lengths) (text : List ℕ) (d : Draft) (e : ReadFault) → Spells text d → read_text (rooms_in lent) text ≡ Err e → (e.cause ≡ Room) × ((65536 < length text) ⊎ (FitsIn lent (put_down d) → ⊥))
spelled_refused lent text d e h q = by (leb (length text) 65536) refl q
  where
    by : (t : Bool) → leb (length text) 65536 ≡ t → cond t (read_lines (rooms_in lent) 1 whole_text nothing (lines_at 0 text)) (Refused 0 Room) ≡ Err e → (e.cause ≡ Room) × ((65536 < length text) ⊎ (FitsIn lent (put_down d) → ⊥))
    by true t q = ⊎_elim
        (λ a. no_ok e (put_down d) (sym q ∙ a.same ∙ spelled_text 1 text d h))
        (λ r. (same_cause e.line (1 + r.at) e.cause Room (sym q ∙ r.refused), inr (overfull lent text d r h)))
        (lines_in (rooms_in lent) text)
    by false t q = (same_cause e.line 0 e.cause Room (sym q), inl (leb-false (length text) 65536 t))
