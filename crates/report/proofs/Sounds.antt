-- What is read is two sheets that pass the check, with books of one width: those that the text spells.
use Rattle.std.proofs.Common.{◌≡◌, ℕ, ◌-◌, ◌≤◌, List, ◌++◌, length, replicate, Ok, Err, Result, sym, refl, ap, ◌∙◌, subst, arith}
use Rattle.std.specs.List.{AllByRecursion}
use Rattle.rules.specs.Books.{BookMeaning}
use Rattle.sheets.specs.Laws.{Fitting, Passing, WrittenPasses, PassingIsWritten}
use Rattle.sheets.specs.Layout.{layout}
use Rattle.sheets.specs.Reads.{sheet_meaning}
use Rattle.sheets.specs.Walk.{sheet_end}
use Rattle.text.specs.declared.words.Name.{Name}
use Rattle.text.specs.Words.{Word}
use Rattle.reader.specs.declared.fault.ReadFault.{ReadFault}
use Rattle.reader.specs.Format.{Memo, read_text}
use Rattle.reader.specs.Reads.{Lengths, rooms_in, padded}
use Rattle.spelling.specs.Draft.{put_down}
use Rattle.spelling.specs.Book.{SpellsBook, book_of, targets_of}
use Rattle.spelling.proofs.Theorems.{read-spells}
use Rattle.spelling.proofs.Telling.{few_names}
use Rattle.spelling.proofs.Laid.{laid}
use Rattle.spelling.proofs.Fits.{fitting}
use Rattle.spelling.proofs.Named.{RuleBelow, Short, named}
use Rattle.report.specs.declared.fault.ReportFault.{ReportFault}
use Rattle.report.specs.Reported.{Sound, rules_in, targets_in, names_in, PlacesAfter, ReportOf, ToldOf, AsSpelled}
use Rattle.report.specs.Answered.{OutcomesOf, LentAfter, Answered, WholeReport, AnswerOf}
use Rattle.report.proofs.Naming.{all_named}

-- what was read is what the text spells, in books that a sheet can hold and with names for all constants
pub record ReadAs (text : List ℕ) (m : Memo) (book targets : BookMeaning) (known : List Word) : Type 0 where
  pub spelled : SpellsBook text book targets known
  pub rules_read : m.rules ≡ layout book
  pub targets_read : m.targets ≡ layout targets
  pub names_read : m.names ≡ known
  pub one_width : targets.width ≡ book.width
  pub few_names : length known ≤ 4096
  pub book_fits : Fitting book
  pub targets_fit : Fitting targets
  pub book_below : AllByRecursion (RuleBelow (length known)) book.rules
  pub targets_below : AllByRecursion (RuleBelow (length known)) targets.rules
  pub short : AllByRecursion Short known

read_as : (text : List ℕ) (m : Memo) (book targets : BookMeaning) (known : List Word) → length m.names ≤ 4096 → m.rules ≡ layout book → m.targets ≡ layout targets → m.names ≡ known →
    SpellsBook text book targets known → ReadAs text m book targets known
read_as text m book targets known few er et en s =
    let d = s.draft in
    let ok = s.spells.spelled.ok in
    let n = named d ok in
    let N = length (put_down d).names in
    let l = ap length en in
    let k = ap length s.names_are in
    let fit = fitting d ok (omega arith) in
    let many : N ≡ length known = omega arith in
    record {
      spelled = s;
      rules_read = er;
      targets_read = et;
      names_read = en;
      one_width = ap (λ (b : BookMeaning). b.width) s.targets_is ∙ sym (ap (λ (b : BookMeaning). b.width) s.book_is);
      few_names = omega arith;
      book_fits = subst Fitting (sym s.book_is) fit.0;
      targets_fit = subst Fitting (sym s.targets_is) fit.1;
      book_below = subst (λ (i : ℕ). AllByRecursion (RuleBelow i) book.rules) many (subst (λ (b : BookMeaning). AllByRecursion (RuleBelow N) b.rules) (sym s.book_is) n.book);
      targets_below = subst (λ (i : ℕ). AllByRecursion (RuleBelow i) targets.rules) many (subst (λ (b : BookMeaning). AllByRecursion (RuleBelow N) b.rules) (sym s.targets_is) n.targets);
      short = subst (AllByRecursion Short) (sym s.names_are) n.short;
    }

-- what an answer says of what was read
pub answered_as : (l : Lengths) (text : List ℕ) (m : Memo) → read_text (rooms_in l) text ≡ Ok m → {os : List _} → (a : Answered text m os) → ReadAs text m a.book a.targets a.known
answered_as l text m q a = read_as text m a.book a.targets a.known (few_names l text m q) a.rules_read a.targets_read a.names_read a.spelled

-- a book laid out in padded places is a sheet that passes and means it
sheet_of : WrittenPasses → PassingIsWritten → (b : BookMeaning) (size : ℕ) (words : List ℕ) → Fitting b → words ≡ layout b →
    Passing (padded size 0 words) × (sheet_meaning (padded size 0 words) ≡ b)
sheet_of written passing b size words fit e =
    let rest = replicate (size - length words) 0 in
    let p = written b rest fit in
    let same : padded size 0 words ≡ layout b ++ rest = ap (λ (ws : List ℕ). ws ++ rest) e in
    ((passing (padded size 0 words) (length (layout b)) (ap sheet_end same ∙ p.0)).1, ap sheet_meaning same ∙ p.1)

module _ (written : WrittenPasses) (passing : PassingIsWritten) (l : Lengths) (text : List ℕ) where
  lent_after : (m : Memo) (room : ℕ) (r : Result ℕ ReportFault) (rs ts : List ℕ) (ns : List Name) (out : List ℕ) → PlacesAfter r l m room rs ts ns out → LentAfter r l m rs ts ns
  lent_after m room (Ok n) rs ts ns out h = h
  lent_after m room (Err e) rs ts ns out h = h.0

  answer_ok : (m : Memo) → read_text (rooms_in l) text ≡ Ok m → (room : ℕ) (r : Result ℕ ReportFault) (rs ts : List ℕ) (ns : List Name) (out : List ℕ) →
      ReportOf (Ok m) text l room r rs ts ns out → WholeReport text l m room r rs ts ns out
  answer_ok m q room r rs ts ns out h =
      let d = read-spells (rooms_in l) text m q in
      let book = book_of d.0 in
      let targets = targets_of d.0 in
      let lay = laid d.0 d.1.spelled.ok in
      let known = (put_down d.0).names in
      let er : m.rules ≡ layout book = ap (λ (z : Memo). z.rules) d.2 ∙ lay.0 in
      let et : m.targets ≡ layout targets = ap (λ (z : Memo). z.targets) d.2 ∙ lay.1 in
      let en : m.names ≡ known = ap (λ (z : Memo). z.names) d.2 in
      let s : SpellsBook text book targets known = record { draft = d.0; spells = d.1; book_is = refl; targets_is = refl; names_are = refl } in
      let f = read_as text m book targets known (few_names l text m q) er et en s in
      let a = sheet_of written passing book l.rules m.rules f.book_fits er in
      let b = sheet_of written passing targets l.targets m.targets f.targets_fit et in
      let sound : Sound (rules_in l m) (targets_in l m) = record {
        rules_pass = a.0;
        targets_pass = b.0;
        one_width = ap (λ (z : BookMeaning). z.width) b.1 ∙ sym (ap (λ (z : BookMeaning). z.width) a.1);
      } in
      let o = h.1 sound in
      let was : OutcomesOf (sheet_meaning (rules_in l m)) (sheet_meaning (targets_in l m)) o.outcomes = record { long = o.long; each = o.each } in
      let due : OutcomesOf book targets o.outcomes = subst (λ (z : BookMeaning). OutcomesOf book z o.outcomes) b.1
      (subst (λ (z : BookMeaning). OutcomesOf z (sheet_meaning (targets_in l m)) o.outcomes) a.1 was) in
      record {
        outcomes = o.outcomes;
        answered = record {
          book = book;
          targets = targets;
          known = known;
          spelled = s;
          rules_read = er;
          targets_read = et;
          names_read = en;
          due = due;
          named = all_named book f.book_fits.well targets f.targets_fit.well f.one_width (length known) f.book_below f.targets_below 0 o.outcomes due.each;
        };
        writes = o.writes;
        places = lent_after m room r rs ts ns out h.0;
      }

  told_ok : (m : Memo) → read_text (rooms_in l) text ≡ Ok m → (room : ℕ) (r : Result ℕ ReportFault) (rs ts : List ℕ) (ns : List Name) (out : List ℕ) →
      ReportOf (Ok m) text l room r rs ts ns out → AsSpelled text (names_in l m) room r out
  told_ok m q room r rs ts ns out h =
      let w = answer_ok m q room r rs ts ns out h in
      let a = w.answered in
      record {
        book = a.book;
        targets = a.targets;
        known = a.known;
        spelled = a.spelled;
        reported = record { outcomes = w.outcomes; long = a.due.long; each = a.due.each; writes = w.writes };
      }

  -- by what the reader answers
  pub tells : (o : Result Memo ReadFault) → read_text (rooms_in l) text ≡ o → (room : ℕ) (r : Result ℕ ReportFault) (rs ts : List ℕ) (ns : List Name) (out : List ℕ) →
      ReportOf o text l room r rs ts ns out → ToldOf o text l room r out
  tells (Ok m) q room r rs ts ns out h = told_ok m q room r rs ts ns out h
  tells (Err e) q room r rs ts ns out h = h.0

  pub answers : (o : Result Memo ReadFault) → read_text (rooms_in l) text ≡ o → (room : ℕ) (r : Result ℕ ReportFault) (rs ts : List ℕ) (ns : List Name) (out : List ℕ) →
      ReportOf o text l room r rs ts ns out → AnswerOf o text l room r rs ts ns out
  answers (Ok m) q room r rs ts ns out h = answer_ok m q room r rs ts ns out h
  answers (Err e) q room r rs ts ns out h = h
