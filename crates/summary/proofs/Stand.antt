-- The rules and targets of a text begin on the lines that its summary names.
use Rattle.std.proofs.Common.{◌≡◌, ℕ, zero, suc, ◌+◌, ◌-◌, List, [], ◌∷◌, ◌++◌, map, length, drop, Some, sym, refl, ap, ◌∙◌, subst, arith, drop-drop}
use lib.Seq.{drop-append_seam}
use Rattle.std.specs.List.{slice_get}
use Rattle.std.proofs.lemmas.List.{length-map}
use Rattle.text.specs.Lines.{Line}
use Rattle.text.specs.Words.{Word, words_at}
use Rattle.text.proofs.Spelled.{words_are_spelled, lines_are_spelled}
use Rattle.rules.specs.declared.term.Kind.{Kind}
use Rattle.rules.specs.declared.term.Kind.TheVariants.{Functional, Equality}
use Rattle.sheets.specs.Layout.{kind_word}
use Rattle.reader.specs.declared.desk.Counting.{Counting}
use Rattle.reader.specs.declared.desk.Counting.TheVariants as counting
use Rattle.reader.specs.Format.{Memo}
use Rattle.spelling.specs.Draft.{Draft, RuleDraft, Spells, LineWords, ListWritten, ListsWritten, RuleWritten, RulesWritten, ListsOk, RuleOk, RulesOk, extend, put_number, put_list, after_rows, put_rule, rules_memo, targets_memo}
use Rattle.spelling.specs.Book.{book_of, targets_of, rule_of, rules_of, left_of, pairs_of, numbers_of, twice}
use Rattle.spelling.proofs.Laid.{many_rows, variables-laid, pairs_laid}
use Rattle.summary.specs.Summary.{list_lines, rule_lines, begins, after, rule_begins, target_begins}
use Rattle.summary.specs.Laws.{word_lines, BeginsOn, LinesStand}

-- how many lines a draft of a rule takes
abbrev draft_lists : RuleDraft → ℕ
draft_lists r = list_lines r.kind (length r.left) (length r.pairs)

abbrev draft_lines : RuleDraft → ℕ
draft_lines r = (2 + length r.rows) + draft_lists r

-- as many as the rule that it means
lists_many : (k : Kind) (m : Memo) (r : RuleDraft) → ListsOk k m r → list_lines k (length (left_of k m r)) (length (pairs_of k m r)) ≡ list_lines k (length r.left) (length r.pairs)
lists_many Functional m r ok =
    let n = put_number m (length r.left) counting.Left in
    let k = put_number (put_list counting.Left m r.left) (length r.pairs) counting.Right in
    let a = (variables-laid n r.left ok.0.lines).1 in
    let b = (variables-laid k r.pairs ok.1.lines).1 in
    let c = length-map (numbers_of k r.pairs) twice in
    omega (arith, a, b, c)
lists_many Equality m r ok =
    let a = (pairs_laid (put_number m (length r.pairs) counting.Pairs) r.pairs ok.lines).1 in
    omega (arith, a)

lines_many : (m : Memo) (r : RuleDraft) → RuleOk m r → rule_lines (rule_of m r) ≡ draft_lines r
lines_many m r ok =
    let a = many_rows (put_number (extend m (kind_word r.kind ∷ [])) (length r.rows) counting.Rows) r.rows in
    let b = lists_many r.kind (after_rows m r) r ok.lists in
    omega (arith, a, b)

-- what follows n lines
abbrev Past : ℕ → List (List Word) → List (List Word) → Type 0
Past n wss rest = rest ≡ drop n wss

past_then : (a b : ℕ) (x y z : List (List Word)) → Past a x y → Past b y z → Past (a + b) x z
past_then a b x y z e f = f ∙ (ap (drop b) e ∙ drop-drop b a x)

past_one : (line : List Word) (wss rest : List (List Word)) → wss ≡ line ∷ rest → Past 1 wss rest
past_one line wss rest e = sym (ap (drop 1) e)

past_list : (c : Counting) (xs wss rest : List (List Word)) → ListWritten c xs wss rest → Past (1 + length xs) wss rest
past_list c xs wss rest w =
    past_then 1 (length xs) wss (xs ++ rest) rest (past_one w.line wss (xs ++ rest) w.begins) (sym (drop-append_seam xs rest))

past_lists : (k : Kind) (r : RuleDraft) (wss rest : List (List Word)) → ListsWritten k r wss rest → Past (list_lines k (length r.left) (length r.pairs)) wss rest
past_lists Functional r wss rest w =
    past_then (1 + length r.left) (1 + length r.pairs) wss w.0 rest (past_list counting.Left r.left wss w.0 w.1) (past_list counting.Right r.pairs w.0 rest w.2)
past_lists Equality r wss rest w = past_list counting.Pairs r.pairs wss rest w.1

past_rule : (r : RuleDraft) (wss rest : List (List Word)) → RuleWritten r wss rest → Past (draft_lines r) wss rest
past_rule r wss rest w =
    let a = past_one w.kind.line wss w.rows_from w.kind.begins in
    let b = past_list counting.Rows r.rows w.rows_from w.lists_from w.rows in
    let c = past_then 1 (1 + length r.rows) wss w.rows_from w.lists_from a b in
    let e : 1 + (1 + length r.rows) ≡ 2 + length r.rows = omega arith in
    let d : Past (2 + length r.rows) wss w.lists_from = c ∙ ap (λ n. drop n wss) e in
    past_then (2 + length r.rows) (draft_lists r) wss w.lists_from rest d (past_lists r.kind r w.lists_from rest w.lists)

-- rules that begin after n lines of all
module _ (all : List (List Word)) where
  onward : (m : Memo) (r : RuleDraft) (wss mid : List (List Word)) (n : ℕ) → Past n all wss → RuleWritten r wss mid → Past (n + draft_lines r) all mid
  onward m r wss mid n at w = past_then n (draft_lines r) all wss mid at (past_rule r wss mid w)

  later : (m : Memo) (r : RuleDraft) (n : ℕ) → RuleOk m r → n + 1 + rule_lines (rule_of m r) ≡ n + draft_lines r + 1
  later m r n ok = omega (arith, lines_many m r ok)

  abbrev Begun : ℕ → RuleDraft → Type 0
  Begun line r = (rest : List (List Word)) × RuleWritten r (drop (line - 1) all) rest

  rules_begin : (m : Memo) (rs : List RuleDraft) → RulesOk m rs → (wss rest : List (List Word)) (n : ℕ) → Past n all wss → RulesWritten rs wss rest →
      (i : ℕ) (r : RuleDraft) → slice_get rs i ≡ Some r → (line : ℕ) × (slice_get (begins (n + 1) (rules_of m rs)) i ≡ Some line) × Begun line r
  rules_begin m [] ok wss rest n at w i r e = absurd (let z : ◌≡◌ {A = ℕ} 0 1 = cc in omega arith)
  rules_begin m (s ∷ rs) ok wss rest n at w zero r e =
      let same : s ≡ r = cc in
      let back : n ≡ n + 1 - 1 = omega arith in
      let here : wss ≡ drop (n + 1 - 1) all = at ∙ ap (λ k. drop k all) back in
      (n + 1, refl, (w.0, subst (λ ws. RuleWritten r ws w.0) here (subst (λ q. RuleWritten q wss w.0) same w.1)))
  rules_begin m (s ∷ rs) ok wss rest n at w (suc i) r e =
      let k = n + draft_lines s in
      let found = rules_begin (put_rule m s) rs ok.1 w.0 rest k (onward m s wss w.0 n at w.1) w.2 i r e in
      (found.0, ap (λ q. slice_get (begins q (rules_of (put_rule m s) rs)) i) (later m s n ok.0) ∙ found.1, found.2)

  rules_ending : (m : Memo) (rs : List RuleDraft) → RulesOk m rs → (wss rest : List (List Word)) (n : ℕ) → Past n all wss → RulesWritten rs wss rest →
      (k : ℕ) × (after (n + 1) (rules_of m rs) ≡ k + 1) × Past k all rest
  rules_ending m [] ok wss rest n at w = (n, refl, sym w ∙ at)
  rules_ending m (s ∷ rs) ok wss rest n at w =
      let k = n + draft_lines s in
      let found = rules_ending (put_rule m s) rs ok.1 w.0 rest k (onward m s wss w.0 n at w.1) w.2 in
      (found.0, ap (λ q. after q (rules_of (put_rule m s) rs)) (later m s n ok.0) ∙ found.1, found.2)

-- the words of the lines are those of the text
words_are : (ls : List Line) (wss : List (List Word)) → LineWords ls wss → wss ≡ map (λ l. words_at l.place l.bytes) ls
words_are [] [] w = refl
words_are [] (ws ∷ wss) w = absurd w
words_are (l ∷ ls) [] w = absurd w
words_are (l ∷ ls) (ws ∷ wss) w =
    let a = (words_are_spelled l.place l.bytes ws).1 w.1 in
    let b = words_are ls wss w.2 in
    let c = sym a in
    cc

text_words : (text : List ℕ) (d : Draft) (s : Spells text d) → s.spelled.words ≡ word_lines text
text_words text d s =
    let a = (lines_are_spelled 0 text s.lines).1 s.lined in
    words_are s.lines s.spelled.words s.spelled.worded ∙ ap (map (λ l. words_at l.place l.bytes)) (sym a)

module _ (text : List ℕ) (d : Draft) (s : Spells text d) where
  first-at : Past 2 s.spelled.words s.spelled.written.first_from
  first-at =
      let w = s.spelled.written in
      past_then 1 1 s.spelled.words w.rules_from w.first_from (past_one w.width.line s.spelled.words w.rules_from w.width.begins) (past_one w.rules.line w.rules_from w.first_from w.rules.begins)

  told : (line : ℕ) (r : RuleDraft) → Begun s.spelled.words line r → BeginsOn text line r
  told line r b = (b.0, subst (λ wss. RuleWritten r (drop (line - 1) wss) b.0) (text_words text d s) b.1)

  rules_stand : (i : ℕ) (r : RuleDraft) → slice_get d.rules i ≡ Some r → (line : ℕ) × (slice_get (rule_begins (book_of d)) i ≡ Some line) × BeginsOn text line r
  rules_stand i r e =
      let w = s.spelled.written in
      let b = rules_begin s.spelled.words (rules_memo d) d.rules s.spelled.ok.rules w.first_from w.targets_from 2 first-at w.first i r e in
      (b.0, b.1, told b.0 r b.2)

  targets_stand : (i : ℕ) (r : RuleDraft) → slice_get d.targets i ≡ Some r → (line : ℕ) × (slice_get (target_begins (book_of d) (targets_of d)) i ≡ Some line) × BeginsOn text line r
  targets_stand i r e =
      let w = s.spelled.written in
      let m = rules_ending s.spelled.words (rules_memo d) d.rules s.spelled.ok.rules w.first_from w.targets_from 2 first-at w.first in
      let at = past_then m.0 1 s.spelled.words w.targets_from w.second_from m.2 (past_one w.targets.line w.targets_from w.second_from w.targets.begins) in
      let b = rules_begin s.spelled.words (targets_memo d) d.targets s.spelled.ok.targets w.second_from [] (m.0 + 1) at w.second i r e in
      (b.0, ap (λ n. slice_get (begins (n + 1) (targets_of d).rules) i) m.1 ∙ b.1, told b.0 r b.2)

pub lines_stand : LinesStand
lines_stand = record {
  rules = λ text d s. rules_stand text d s;
  targets = λ text d s. targets_stand text d s;
}
