-- No lines, and so no text, spell two drafts.
use Rattle.std.proofs.Common.{◌≡◌, ℕ, ◌≤◌, List, [], ◌∷◌, ◌++◌, length, sym, refl, ap, ◌∙◌, subst, arith}
use Rattle.text.specs.Lines.{Line}
use Rattle.text.specs.Words.{Word}
use Rattle.text.proofs.Spelled.{words_are_spelled, lines_are_spelled}
use Rattle.rules.specs.declared.term.Kind.{Kind}
use Rattle.rules.specs.declared.term.Kind.TheVariants.{Functional, Equality}
use Rattle.reader.specs.declared.desk.Counting.{Counting}
use Rattle.reader.specs.declared.desk.Counting.TheVariants as counting
use Rattle.reader.specs.declared.desk.Entry.{Entry}
use Rattle.reader.specs.declared.desk.Entry.TheVariants as entries
use Rattle.reader.specs.Format.{Memo, least, most, count_line, kind_line}
use Rattle.spelling.specs.Draft.{RuleDraft, Draft, CountWritten, ListWritten, KindWritten, ListsWritten, RuleWritten, RulesWritten, DraftWritten, LineWords, LinesSpell, Spells, ListOk, ListsOk, RuleOk, RulesOk, DraftOk, after_rows, put_rule, rules_memo, targets_memo, put_down}
use Rattle.spelling.specs.Book.{book_of, targets_of}
use Rattle.spelling.specs.Exactly.{SpellsOneBook}
use Rattle.spelling.proofs.Lexical.{count_on, kind_on}
use Rattle.spelling.proofs.Through.{worded}

-- equal fronts of equal length leave equal rests
same_front : {X : Type 0} (xs ys vs us : List X) → length xs ≡ length ys → xs ++ vs ≡ ys ++ us → (xs ≡ ys) × (vs ≡ us)
same_front [] [] vs us l e = (refl, e)
same_front [] (y ∷ ys) vs us l e = absurd (omega arith)
same_front (x ∷ xs) [] vs us l e = absurd (omega arith)
same_front (x ∷ xs) (y ∷ ys) vs us l e =
    let head : x ≡ y = cc in
    let tail : xs ++ vs ≡ ys ++ us = cc in
    let rest = same_front xs ys vs us (omega arith) tail in
    ((λ i. head i ∷ rest.0 i), rest.1)

-- a count is one number
module _ (c : Counting) (a b : ℕ) (a-low : least c ≤ a) (a-high : a ≤ most c) (b-low : least c ≤ b) (b-high : b ≤ most c) where
  count_one : (wss p q : List (List Word)) → CountWritten c a wss p → CountWritten c b wss q → (a ≡ b) × (p ≡ q)
  count_one wss p q x y =
      let lines : x.line ∷ p ≡ y.line ∷ q = sym x.begins ∙ y.begins in
      let line : x.line ≡ y.line = cc in
      let rest : p ≡ q = cc in
      let one = count_on c a x.line x.says a-low a-high in
      let two = count_on c b y.line y.says b-low b-high in
      let same = sym one ∙ ap (count_line c) line ∙ two in
      let number : a ≡ b = cc in
      (number, rest)

module _ (c : Counting) (e : Entry) (m n : Memo) where
  list_one : (xs ys wss p q : List (List Word)) → ListOk c e m xs → ListOk c e n ys → ListWritten c xs wss p → ListWritten c ys wss q → (xs ≡ ys) × (p ≡ q)
  list_one xs ys wss p q x-ok y-ok x y =
      let many = count_one c (length xs) (length ys) x-ok.low x-ok.high y-ok.low y-ok.high wss (xs ++ p) (ys ++ q)
      (record { line = x.line; begins = x.begins; says = x.says }) (record { line = y.line; begins = y.begins; says = y.says }) in
      same_front xs ys p q many.0 many.1

kind_one : (j k : Kind) (wss p q : List (List Word)) → KindWritten j wss p → KindWritten k wss q → (j ≡ k) × (p ≡ q)
kind_one j k wss p q x y =
    let lines : x.line ∷ p ≡ y.line ∷ q = sym x.begins ∙ y.begins in
    let line : x.line ≡ y.line = cc in
    let rest : p ≡ q = cc in
    let same = sym (kind_on j x.line x.says) ∙ ap kind_line line ∙ kind_on k y.line y.says in
    let kind : j ≡ k = cc in
    (kind, rest)

lists_one : (k : Kind) (m n : Memo) (r s : RuleDraft) (wss p q : List (List Word)) → ListsOk k m r → ListsOk k n s → ListsWritten k r wss p → ListsWritten k s wss q → (r.left ≡ s.left) × (r.pairs ≡ s.pairs) × (p ≡ q)
lists_one Functional m n r s wss p q (r-left, r-right) (s-left, s-right) (mid, x, x') (mid', y, y') =
    let left = list_one counting.Left entries.Variable _ _ r.left s.left wss mid mid' r-left s-left x y in
    let right = list_one counting.Right entries.Variable _ _ r.pairs s.pairs mid p q r-right s-right x' (subst (λ z. ListWritten counting.Right s.pairs z q) (sym left.1) y') in
    (left.0, right.0, right.1)
lists_one Equality m n r s wss p q r-ok s-ok (r-none, x) (s-none, y) =
    let pairs = list_one counting.Pairs entries.Pair _ _ r.pairs s.pairs wss p q r-ok s-ok x y in
    (r-none ∙ sym s-none, pairs.0, pairs.1)

rule-one : (m n : Memo) (r s : RuleDraft) (wss p q : List (List Word)) → RuleOk m r → RuleOk n s → RuleWritten r wss p → RuleWritten s wss q → (r ≡ s) × (p ≡ q)
rule-one m n r s wss p q r-ok s-ok x y =
    let kind = kind_one r.kind s.kind wss x.rows_from y.rows_from x.kind y.kind in
    let rows = list_one counting.Rows entries.Row _ _ r.rows s.rows x.rows_from x.lists_from y.lists_from r-ok.rows s-ok.rows x.rows
    (subst (λ z. ListWritten counting.Rows s.rows z y.lists_from) (sym kind.1) y.rows) in
    let back = sym kind.0 in
    let lists = lists_one r.kind _ _ r s x.lists_from p q r-ok.lists (subst (λ k. ListsOk k (after_rows n s) s) back s-ok.lists) x.lists
    (subst (λ z. ListsWritten r.kind s z q) (sym rows.1) (subst (λ k. ListsWritten k s y.lists_from q) back y.lists)) in
    ((λ i. record { kind = kind.0 i; rows = rows.0 i; left = lists.0 i; pairs = lists.1 i }), lists.2)

rules_one : (m n : Memo) (rs ss : List RuleDraft) (wss p q : List (List Word)) → length rs ≡ length ss → RulesOk m rs → RulesOk n ss → RulesWritten rs wss p → RulesWritten ss wss q → (rs ≡ ss) × (p ≡ q)
rules_one m n [] [] wss p q l r-ok s-ok x y = (refl, sym x ∙ y)
rules_one m n [] (s ∷ ss) wss p q l r-ok s-ok x y = absurd (omega arith)
rules_one m n (r ∷ rs) [] wss p q l r-ok s-ok x y = absurd (omega arith)
rules_one m n (r ∷ rs) (s ∷ ss) wss p q l (r-ok, rs-ok) (s-ok, ss-ok) (mid, x, xs) (mid', y, ys) =
    let first = rule-one m n r s wss mid mid' r-ok s-ok x y in
    let rest = rules_one (put_rule m r) (put_rule n s) rs ss mid p q (omega arith) rs-ok ss-ok xs (subst (λ z. RulesWritten ss z q) (sym first.1) ys) in
    ((λ i. first.0 i ∷ rest.0 i), rest.1)

draft_one : (d e : Draft) (wss : List (List Word)) → DraftOk d → DraftOk e → DraftWritten d wss → DraftWritten e wss → d ≡ e
draft_one d e wss d-ok e-ok x y =
    let width = count_one counting.Width d.width e.width d-ok.some_width d-ok.small_width e-ok.some_width e-ok.small_width wss x.rules_from y.rules_from x.width y.width in
    let many = count_one counting.Rules (length d.rules) (length e.rules) (omega arith) d-ok.few_rules (omega arith) e-ok.few_rules x.rules_from x.first_from y.first_from x.rules
    (subst (λ z. CountWritten counting.Rules (length e.rules) z y.first_from) (sym width.1) y.rules) in
    let rules = rules_one (rules_memo d) (rules_memo e) d.rules e.rules x.first_from x.targets_from y.targets_from many.0 d-ok.rules e-ok.rules x.first
    (subst (λ z. RulesWritten e.rules z y.targets_from) (sym many.1) y.first) in
    let more = count_one counting.Targets (length d.targets) (length e.targets) (omega arith) d-ok.few_targets (omega arith) e-ok.few_targets x.targets_from x.second_from y.second_from x.targets
    (subst (λ z. CountWritten counting.Targets (length e.targets) z y.second_from) (sym rules.1) y.targets) in
    let targets = rules_one (targets_memo d) (targets_memo e) d.targets e.targets x.second_from [] [] more.0 d-ok.targets e-ok.targets x.second
    (subst (λ z. RulesWritten e.targets z []) (sym more.1) y.second) in
    λ i. record { width = width.0 i; rules = rules.0 i; targets = targets.0 i }

words_one : (ls : List Line) (wss : List (List Word)) → LineWords ls wss → worded ls ≡ wss
words_one [] [] h = refl
words_one [] (ws ∷ wss) h = absurd h
words_one (l ∷ ls) [] h = absurd h
words_one (l ∷ ls) (ws ∷ wss) h =
    let line = (words_are_spelled l.place l.bytes ws).1 h.1 in
    let rest = words_one ls wss h.2 in
    λ i. line i ∷ rest i

lines_one : (ls : List Line) (d e : Draft) → LinesSpell ls d → LinesSpell ls e → d ≡ e
lines_one ls d e x y =
    let words = sym (words_one ls y.words y.worded) ∙ words_one ls x.words x.worded in
    draft_one d e x.words x.ok y.ok x.written (subst (DraftWritten e) words y.written)

pub draft_alone : (text : List ℕ) (d e : Draft) → Spells text d → Spells text e → d ≡ e
draft_alone text d e x y =
    let lines = sym ((lines_are_spelled 0 text y.lines).1 y.lined) ∙ (lines_are_spelled 0 text x.lines).1 x.lined in
    lines_one x.lines d e x.spelled (subst (λ ls. LinesSpell ls e) lines y.spelled)

pub spells_one_book : SpellsOneBook
spells_one_book text = record {
  draft = draft_alone text;
  book = λ b t xs c u ys x y.
      let same = draft_alone text x.draft y.draft x.spells y.spells in
      (x.book_is ∙ ap book_of same ∙ sym y.book_is, x.targets_is ∙ ap targets_of same ∙ sym y.targets_is, x.names_are ∙ ap (λ d. (put_down d).names) same ∙ sym y.names_are);
}
