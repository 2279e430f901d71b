-- A text has one report.
use Rattle.std.proofs.Common.{◌≡◌, ℕ, ◌+◌, ◌≤◌, List, [], ◌∷◌, ◌++◌, length, Some, Ok, Err, Result, sym, refl, ap, ◌∙◌, subst, arith}
use Rattle.rules.specs.Rules.{Rule}
use Rattle.rules.specs.Books.{BookMeaning, WellFormedBook}
use Rattle.text.specs.declared.words.Name.{Name}
use Rattle.sheets.specs.Laws.{Fitting, WrittenPasses}
use Rattle.sheets.specs.Layout.{layout}
use Rattle.sheets.specs.Reads.{sheet_meaning}
use Rattle.reader.specs.declared.fault.ReadFault.{ReadFault}
use Rattle.reader.specs.Format.{Memo, read_text}
use Rattle.reader.specs.Reads.{Lengths, rooms_in}
use Rattle.writing.specs.Outcomes.{Outcome}
use Rattle.writing.specs.Reports.{parts}
use Rattle.writing.specs.Fitting.{whole, Writes}
use Rattle.writing.specs.Enough.{enough}
use Rattle.writing.proofs.Alike as alike
use Rattle.writing.proofs.Lengths.{report_enough}
use Rattle.outcomes.specs.Due.{Due, DueAt}
use Rattle.outcomes.proofs.All.{outcomes_due}
use Rattle.report.specs.declared.fault.ReportFault.{ReportFault}
use Rattle.report.specs.Faults.{short_fault}
use Rattle.report.specs.Reported.{EachDue, names_in}
use Rattle.report.specs.Answered.{OutcomesOf, LentAfter, Answered, AnswerOf, Printed, OneAnswer, OnePrinted}
use Rattle.report.specs.Laws.{OneReport}
use Rattle.report.proofs.Tried.{target_fits}
use Rattle.report.proofs.Naming.{modest}
use Rattle.report.proofs.Sounds.{answered_as}
use Rattle.std.specs.List.{AllByRecursion}
use Rattle.spelling.proofs.Named.{Short}

some_rule : (t t' : Rule) → Some t ≡ Some t' → t ≡ t'
some_rule t t' e = cc

module _ (b : BookMeaning) (book_fits : WellFormedBook b) (ts : BookMeaning) (targets_fit : WellFormedBook ts) (w : ts.width ≡ b.width) where
  at_one : (i : ℕ) (o o' : Outcome) → DueAt b ts i o → DueAt b ts i o' → o ≡ o'
  at_one i o o' d d' =
      let same = some_rule d'.target d.target (sym d'.listed ∙ d.listed) in
      outcomes_due.one b book_fits d.target (target_fits b book_fits ts targets_fit w i d.target d.listed) o o' d.is_due
      (subst (λ (t : Rule). Due b t o') same d'.is_due)

  each-one : (i : ℕ) (os os' : List Outcome) → length os ≡ length os' → EachDue b ts i os → EachDue b ts i os' → os ≡ os'
  each-one i [] [] e d d' = refl
  each-one i [] (o ∷ os) e d d' = absurd (omega arith)
  each-one i (o ∷ os) [] e d d' = absurd (omega arith)
  each-one i (o ∷ os) (o' ∷ os') e d d' =
      let this = at_one i o o' d.0 d'.0 in
      let rest = each-one (i + 1) os os' (omega arith) d.1 d'.1 in
      λ k. this k ∷ rest k

pub one_report : OneReport
one_report rules targets sound text names room r r' out out' f f' =
    let same =
    each-one (sheet_meaning rules) sound.rules_pass.fitting.well (sheet_meaning targets) sound.targets_pass.fitting.well sound.one_width 0 f.outcomes f'.outcomes
    (f.long ∙ sym f'.long) f.each f'.each in
    alike.one ReportFault short_fault room (parts text names f.outcomes) r r' out out' f.writes
    (subst (λ (os : List Outcome). Writes short_fault room (parts text names os) r' out') (sym same) f'.writes)

-- two books laid out alike are one
laid_alike : WrittenPasses → (b c : BookMeaning) → Fitting b → Fitting c → layout b ≡ layout c → b ≡ c
laid_alike written b c fb fc e =
    sym (written b [] fb).1 ∙ ap (λ (ws : List ℕ). sheet_meaning (ws ++ [])) e ∙ (written c [] fc).1

module _ (written : WrittenPasses) (l : Lengths) (text : List ℕ) where
  -- what was read has one list of outcomes
  outcomes_one : (m : Memo) → read_text (rooms_in l) text ≡ Ok m → (os os' : List Outcome) → Answered text m os → Answered text m os' → os ≡ os'
  outcomes_one m q os os' a a' =
      let f = answered_as l text m q a in
      let f' = answered_as l text m q a' in
      let book = laid_alike written a'.book a.book f'.book_fits f.book_fits (sym f'.rules_read ∙ f.rules_read) in
      let targets = laid_alike written a'.targets a.targets f'.targets_fit f.targets_fit (sym f'.targets_read ∙ f.targets_read) in
      let due : OutcomesOf a.book a.targets os' = subst (λ (z : BookMeaning). OutcomesOf z a.targets os') book (subst (λ (z : BookMeaning). OutcomesOf a'.book z os') targets a'.due) in
      each-one a.book f.book_fits.well a.targets f.targets_fit.well f.one_width 0 os os' (a.due.long ∙ sym due.long) a.due.each due.each

  places_one : (m : Memo) (r : Result ℕ ReportFault) (rs rs' ts ts' : List ℕ) (ns ns' : List Name) → LentAfter r l m rs ts ns → LentAfter r l m rs' ts' ns' → (rs ≡ rs') × (ts ≡ ts') × (ns ≡ ns')
  places_one m (Ok n) rs rs' ts ts' ns ns' h h' = (h.rules ∙ sym h'.rules, h.targets ∙ sym h'.targets, h.names ∙ sym h'.names)
  places_one m (Err e) rs rs' ts ts' ns ns' h h' = (h.rules ∙ sym h'.rules, h.targets ∙ sym h'.targets, h.names ∙ sym h'.names)

  told-one : (o : Result Memo ReadFault) → read_text (rooms_in l) text ≡ o → (room : ℕ) (r r' : Result ℕ ReportFault) (rs rs' ts ts' : List ℕ) (ns ns' : List Name) (out out' : List ℕ) →
      AnswerOf o text l room r rs ts ns out → AnswerOf o text l room r' rs' ts' ns' out' → (r ≡ r') × (rs ≡ rs') × (ts ≡ ts') × (ns ≡ ns') × (out ≡ out')
  told-one (Err e) q room r r' rs rs' ts ts' ns ns' out out' (x, b, z) (x', b', z') =
      (x ∙ sym x', b.rules ∙ sym b'.rules, b.targets ∙ sym b'.targets, b.names ∙ sym b'.names, z ∙ sym z')
  told-one (Ok m) q room r r' rs rs' ts ts' ns ns' out out' f f' =
      let same = outcomes_one m q f.outcomes f'.outcomes f.answered f'.answered in
      let one = alike.one ReportFault short_fault room (parts text (names_in l m) f.outcomes) r r' out out' f.writes
      (subst (λ (os : List Outcome). Writes short_fault room (parts text (names_in l m) os) r' out') (sym same) f'.writes) in
      let p = places_one m r rs rs' ts ts' ns ns' f.places (subst (λ (q : Result ℕ ReportFault). LentAfter q l m rs' ts' ns') (sym one.0) f'.places) in
      (one.0, p.0, p.1, p.2, one.1)

  printed_one : (o : Result Memo ReadFault) → read_text (rooms_in l) text ≡ o → (bytes bytes' : List ℕ) → Printed o text l bytes → Printed o text l bytes' → bytes ≡ bytes'
  printed_one (Err e) q bytes bytes' h h' = h ∙ sym h'
  printed_one (Ok m) q bytes bytes' f f' =
      f.is ∙ ap (λ (os : List Outcome). whole (parts text (names_in l m) os)) (outcomes_one m q f.outcomes f'.outcomes f.answered f'.answered) ∙ sym f'.is

pub one_answer : WrittenPasses → OneAnswer
one_answer written l text room r r' rs rs' ts ts' ns ns' out out' f f' = told-one written l text (read_text (rooms_in l) text) refl room r r' rs rs' ts ts' ns ns' out out' f f'

pub one_printed : WrittenPasses → OnePrinted
one_printed written l text bytes bytes' f f' = printed_one written l text (read_text (rooms_in l) text) refl bytes bytes' f f'

-- every report fits an output that is long enough
pub always_fits : (l : Lengths) (text : List ℕ) (m : Memo) → read_text (rooms_in l) text ≡ Ok m → (os : List Outcome) → Answered text m os → length (whole (parts text (names_in l m) os)) ≤ enough
always_fits l text m q os a =
    let f = answered_as l text m q a in
    report_enough text (names_in l m) os
    (modest a.book f.book_fits.well a.targets f.targets_fit.well f.one_width (length a.known) f.book_below f.targets_below
    l.names m.names os f.few_names (subst (AllByRecursion Short) (sym f.names_read) f.short) f.targets_fit.few a.due)
