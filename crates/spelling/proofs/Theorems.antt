-- The laws of reading.
use Rattle.std.proofs.lemmas.Bool.{cond-true, le-leb}
use Rattle.std.proofs.Common.{◌≡◌, ℕ, suc, ◌+◌, ◌-◌, Bool, true, false, cond, leb, ◌⊎◌, List, length, take, Ok, Err, Result, sym, refl, ap, ◌∙◌, subst, inl, inr, ⊎_elim, arith}
use Rattle.text.specs.Lines.{Line, lines_at}
use Rattle.text.proofs.Spelled.{lines_are_spelled}
use Rattle.reader.specs.declared.fault.Cause.{Cause}
use Rattle.reader.specs.declared.fault.Cause.TheVariants.{Room, Lines}
use Rattle.reader.specs.declared.fault.ReadFault.{ReadFault}
use Rattle.reader.specs.Format.{Rooms, Memo, read_lines, whole_text, nothing, read_text}
use Rattle.spelling.specs.Draft.{Draft, LinesSpell, Spells, put_down}
use Rattle.spelling.specs.Laws.{ReadSpells, SpelledReads, SpellsOne, RefusedSpellsNothing, RefusedLines}
use Rattle.spelling.specs.Room.{WholePutDown}
use Rattle.spelling.proofs.Endless.{E}
use Rattle.spelling.proofs.Fronts.{read-put}
use Rattle.spelling.proofs.Places.{Alike, Stops, nothing-good, lines_tight}
use Rattle.spelling.proofs.Lexical.{no_ok, cond_ok}
use Rattle.spelling.proofs.Through.{worded, read_through, through_read}
use Rattle.spelling.proofs.Refusals.{Refused, same_cause, line_late, cut, missing}
use Rattle.spelling.proofs.Sound.{draft_back}
use Rattle.spelling.proofs.Complete.{draft_on}

-- of lines, with endless room

lines_spell : (n : ℕ) (ls : List Line) (y : Memo) → read_lines E n whole_text nothing ls ≡ Ok y → (d : Draft) × LinesSpell ls d × (y ≡ put_down d)
lines_spell n ls y q =
    let t = read_through n whole_text nothing ls y q in
    let b = draft_back (worded ls) y t.1 in
    (b.0, record { words = worded ls; worded = t.0; written = b.1; ok = b.2 }, b.3)

spelled_lines : (n : ℕ) (ls : List Line) (d : Draft) → LinesSpell ls d → read_lines E n whole_text nothing ls ≡ Ok (put_down d)
spelled_lines n ls d h = through_read n whole_text nothing ls h.words (put_down d) h.worded (draft_on d h.words h.written h.ok)

pub whole-put_down : WholePutDown
whole-put_down ls d h = read-put 1 whole_text nothing ls (put_down d) (spelled_lines 1 ls d h)

-- of the lines of a text
pub spelled_text : (n : ℕ) (text : List ℕ) (d : Draft) → Spells text d → read_lines E n whole_text nothing (lines_at 0 text) ≡ Ok (put_down d)
spelled_text n text d h = ap (read_lines E n whole_text nothing) ((lines_are_spelled 0 text h.lines).1 h.lined) ∙ spelled_lines n h.lines d h.spelled

-- reading them in places
pub lines_in : (rooms : Rooms) (text : List ℕ) → Alike rooms 1 whole_text nothing (lines_at 0 text) ⊎ Stops rooms 1 whole_text nothing (lines_at 0 text)
lines_in rooms text = lines_tight rooms 1 whole_text nothing (lines_at 0 text) (nothing-good rooms)

room-no : {C : Type 0} (k : ℕ) (y : Memo) (o : Result Memo ReadFault) → o ≡ Err (record { cause = Room; line = k }) → o ≡ Ok y → C
room-no k y o a b = no_ok (record { cause = Room; line = k }) y (sym a ∙ b)

pub read-spells : ReadSpells
read-spells rooms text m q =
    let c = cond_ok (leb (length text) 65536) (read_lines rooms 1 whole_text nothing (lines_at 0 text)) _ m q in
    let same = ⊎_elim (λ a. sym a.same ∙ c.1) (λ r. room-no (1 + r.at) m (read_lines rooms 1 whole_text nothing (lines_at 0 text)) r.refused c.1) (lines_in rooms text) in
    let s = lines_spell 1 (lines_at 0 text) m same in
    (s.0, record { lines = lines_at 0 text; lined = (lines_are_spelled 0 text (lines_at 0 text)).0 refl; spelled = s.1 }, s.2)

pub spelled_reads : SpelledReads
spelled_reads rooms text d short h =
    let open-text = cond-true (leb (length text) 65536) (read_lines rooms 1 whole_text nothing (lines_at 0 text)) (Err (record { cause = Room; line = 0 })) (le-leb _ _ short) in
    ⊎_elim (λ a. inl (open-text ∙ (a.same ∙ spelled_text 1 text d h))) (λ r. inr (1 + r.at, open-text ∙ r.refused)) (lines_in rooms text)

pub spells_one : SpellsOne
spells_one text d e h k =
    let p = spelled_text 1 text d h in
    let q = spelled_text 1 text e k in
    cc

-- a text that is not too long is refused where its lines are
lines_refused : (rooms : Rooms) (text : List ℕ) (e : Cause) (n : ℕ) → read_text rooms text ≡ Refused n e → (e ≡ Room → ⊥) → read_lines E 1 whole_text nothing (lines_at 0 text) ≡ Refused n e
lines_refused rooms text e n q ne = ⊎_elim (λ a. sym a.same ∙ short (leb (length text) 65536) q) (λ r. absurd (ne (sym (same_cause (1 + r.at) n Room e (sym r.refused ∙ short (leb (length text) 65536) q))))) (lines_in rooms text)
  where
    short : (t : Bool) → cond t (read_lines rooms 1 whole_text nothing (lines_at 0 text)) (Refused 0 Room) ≡ Refused n e → read_lines rooms 1 whole_text nothing (lines_at 0 text) ≡ Refused n e
    short true h = h
    short false h = absurd (ne (sym (same_cause 0 n Room e h)))

pub refused-spells_nothing : RefusedSpellsNothing
refused-spells_nothing rooms text other e n q no_room no_lines same d h =
    let r = lines_refused rooms text e n q no_room in
    let late = line_late 1 n e whole_text nothing (lines_at 0 text) r in
    let at : n ≡ 1 + (n - 1) = omega arith in
    let all : suc (n - 1) ≡ n = omega arith in
    let c = cut 1 (n - 1) e whole_text nothing (lines_at 0 text) (lines_at 0 other) no_lines (r ∙ ap (λ i. Refused i e) at) (subst (λ i. take i (lines_at 0 other) ≡ take i (lines_at 0 text)) (sym all) same) in
    no_ok (record { cause = e; line = 1 + (n - 1) }) (put_down d) (sym c ∙ spelled_text 1 other d h)

pub refused-lines : RefusedLines
refused-lines rooms text n q =
    let r = lines_refused rooms text Lines n q (λ h. let z : ◌≡◌ {A = ℕ} 0 1 = cc in omega arith) in
    ⊎_elim
    (λ h. inl (omega arith))
    (λ h. let s = lines_spell 1 (take (n - 1) (lines_at 0 text)) h.0 h.1 in inr (s.0, s.1))
    (missing 1 n whole_text nothing (lines_at 0 text) r)
