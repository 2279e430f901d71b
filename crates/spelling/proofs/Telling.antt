-- What reading tells of the text.
use Rattle.std.proofs.Common.{◌≡◌, ℕ, ◌-◌, ◌≤◌, List, ◌++◌, map, length, replicate, Ok, Err, Result, sym, refl, ap, ◌∙◌, subst, le_trans, arith}
use native.Mathlib.Nat.{min-le_right}
use Rattle.text.specs.declared.words.Name.{Name}
use Rattle.reader.specs.declared.fault.Cause.{Cause}
use Rattle.reader.specs.declared.fault.Cause.TheVariants.{Byte, Form, Count, Unknown, Room, Lines}
use Rattle.reader.specs.declared.fault.ReadFault.{ReadFault}
use Rattle.reader.specs.declared.desk.Sizes.{Sizes}
use Rattle.reader.specs.Format.{Memo, read_text}
use Rattle.reader.specs.Lists.{words_in}
use Rattle.reader.specs.Reads.{Lengths, rooms_in, Holds, Reads, padded, no_name}
use Rattle.rules.specs.Books.{BookMeaning}
use Rattle.sheets.specs.Layout.{layout}
use Rattle.sheets.specs.Laws.{Fitting, WrittenPasses}
use Rattle.sheets.specs.Reads.{sheet_meaning}
use Rattle.sheets.specs.Walk.{sheet_end}
use Rattle.text.specs.Words.{name_of, Word}
use Rattle.spelling.specs.Draft.{Draft, Spells, put_down}
use Rattle.spelling.specs.Book.{SpellsBook, book_of, targets_of}
use Rattle.spelling.specs.Laws.{Why, Tells, OpensAs}
use Rattle.spelling.specs.Exactly.{TellsExactly}
use Rattle.spelling.specs.Room.{FitsIn}
use Rattle.spelling.proofs.Fits.{fitting}
use Rattle.spelling.proofs.Refusals.{Refused}
use Rattle.spelling.proofs.Laid.{laid}
use Rattle.spelling.proofs.Filling.{read_fits, refused-room, spelled_refused}
use Rattle.spelling.proofs.Theorems.{read-spells, refused-spells_nothing, refused-lines}
use Rattle.spelling.proofs.Unique.{draft_alone, spells_one_book}

-- with at most 4,096 places for names there are no more names
pub few_names : (n : Lengths) (text : List ℕ) (m : Memo) → read_text (rooms_in n) text ≡ Ok m → length m.names ≤ 4096
few_names n text m q = le_trans (read_fits n text m q).1.names (min-le_right n.names 4096)

module _ (n : Lengths) (text : List ℕ) where
  why : (e : Cause) (i : ℕ) → read_text (rooms_in n) text ≡ Refused i e → Why text i e
  why Byte i q = λ other same d h. refused-spells_nothing (rooms_in n) text other Byte i q (λ x. let z : ◌≡◌ {A = ℕ} 0 1 = cc (x) in omega arith) (λ x. let z : ◌≡◌ {A = ℕ} 0 1 = cc (x) in omega arith) same d h
  why Form i q = λ other same d h. refused-spells_nothing (rooms_in n) text other Form i q (λ x. let z : ◌≡◌ {A = ℕ} 0 1 = cc (x) in omega arith) (λ x. let z : ◌≡◌ {A = ℕ} 0 1 = cc (x) in omega arith) same d h
  why Count i q = λ other same d h. refused-spells_nothing (rooms_in n) text other Count i q (λ x. let z : ◌≡◌ {A = ℕ} 0 1 = cc (x) in omega arith) (λ x. let z : ◌≡◌ {A = ℕ} 0 1 = cc (x) in omega arith) same d h
  why Unknown i q = λ other same d h. refused-spells_nothing (rooms_in n) text other Unknown i q (λ x. let z : ◌≡◌ {A = ℕ} 0 1 = cc (x) in omega arith) (λ x. let z : ◌≡◌ {A = ℕ} 0 1 = cc (x) in omega arith) same d h
  why Room i q = tt
  why Lines i q = refused-lines (rooms_in n) text i q

  same_memo : (m : Memo) → read_text (rooms_in n) text ≡ Ok m → (d : Draft) → Spells text d → m ≡ put_down d
  same_memo m q d h = let r = read-spells (rooms_in n) text m q in r.2 ∙ ap put_down (draft_alone text r.0 d r.1 h)

  opened : WrittenPasses → (b : BookMeaning) (rest words : List ℕ) → Fitting b → words ≡ layout b ++ rest → OpensAs words b
  opened back b rest words fit e = let p = back b rest fit in record { fitting = fit; passes = ap sheet_end e ∙ p.0; means = ap sheet_meaning e ∙ p.1 }

  pub telling : WrittenPasses → (r : Result Sizes ReadFault) (rs ts : List ℕ) (ns : List Name) → Reads text n (read_text (rooms_in n) text) r rs ts ns → Tells text n r rs ts ns
  telling back (Ok s) rs ts ns (m, q, h) =
      let d = read-spells (rooms_in n) text m q in
      let opens : (book targets : BookMeaning) (names : List Word) → SpellsBook text book targets names → OpensAs rs book × OpensAs ts targets = λ book targets names sp.
      let e = sp.draft in
      let same = ap (λ z. length z.names) (same_memo m q e sp.spells) in
      let least = few_names n text m q in
      let hold = subst (λ z. Holds text n z s rs ts ns) (same_memo m q e sp.spells) h in
      let sheets = laid e sp.spells.spelled.ok in
      let fit = fitting e sp.spells.spelled.ok (omega arith) in (
        subst (OpensAs rs) (sym sp.book_is) (opened back (book_of e) _ rs fit.0 (hold.rules ∙ ap (λ z. z ++ replicate (n.rules - length (put_down e).rules) 0) sheets.0)),
        subst (OpensAs ts) (sym sp.targets_is) (opened back (targets_of e) _ ts fit.1 (hold.targets ∙ ap (λ z. z ++ replicate (n.targets - length (put_down e).targets) 0) sheets.1)),
      ) in
      let holds : (e : Draft) → Spells text e → Holds text n (put_down e) s rs ts ns = λ e sp. subst (λ z. Holds text n z s rs ts ns) (same_memo m q e sp) h in
      record {
        draft = d.0;
        spells = d.1;
        holds = holds;
        spelled = record { draft = d.0; spells = d.1; book_is = refl; targets_is = refl; names_are = refl };
        alone = (spells_one_book text).book;
        opens = opens;
        laid_out = λ book targets names sp.
            let e = sp.draft in
            let hold = holds e sp.spells in
            let sheets = laid e sp.spells.spelled.ok in
            record {
              rules = hold.rules ∙ ap (padded n.rules 0) (sheets.0 ∙ ap layout (sym sp.book_is));
              targets = hold.targets ∙ ap (padded n.targets 0) (sheets.1 ∙ ap layout (sym sp.targets_is));
              names = hold.names ∙ ap (λ z. padded n.names no_name (map name_of z)) (sym sp.names_are);
              parts = subst (λ z. words_in text (map name_of z) ≡ z) (sym sp.names_are) hold.parts;
            };
      }
  telling back (Err e) rs ts ns (q, b) = record { blank = b; why = why e.cause e.line q; only_room = λ d sp. (spelled_refused n text d e sp q).0 }

  pub telling_exactly : (r : Result Sizes ReadFault) (rs ts : List ℕ) (ns : List Name) → Reads text n (read_text (rooms_in n) text) r rs ts ns → TellsExactly text n r
  telling_exactly (Ok s) rs ts ns (m, q, h) =
      let fits = read_fits n text m q in
      record { short = fits.0; fits = λ d sp. subst (FitsIn n) (same_memo m q d sp) fits.1 }
  telling_exactly (Err e) rs ts ns (q, b) = record { room = λ z. (refused-room n text e.line).0 (q ∙ ap (Refused e.line) z); passes = λ d sp. (spelled_refused n text d e sp q).1 }
