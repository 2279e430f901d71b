-- Lines that write a draft are read as what it puts down.
use Rattle.std.proofs.Common.{◌≡◌, ℕ, ◌≤◌, List, [], ◌∷◌, ◌++◌, length, replicate, Ok, sym, refl, ap, ◌∙◌, arith}
use Rattle.text.specs.Words.{Word}
use Rattle.rules.specs.declared.term.Kind.{Kind}
use Rattle.rules.specs.declared.term.Kind.TheVariants.{Functional, Equality}
use Rattle.sheets.specs.Layout.{kind_word}
use Rattle.reader.specs.declared.desk.Counting.{Counting}
use Rattle.reader.specs.declared.desk.Counting.TheVariants as counting
use Rattle.reader.specs.declared.desk.Entry.{Entry}
use Rattle.reader.specs.declared.desk.Entry.TheVariants as entries
use Rattle.reader.specs.Format.{Memo, Due, count, kind, entry, least, most, after_count, after_kind, whole_text, nothing}
use Rattle.spelling.specs.Draft.{RuleDraft, Draft, CountWritten, ListWritten, ListsWritten, RuleWritten, RulesWritten, DraftWritten, extend, puts, puts_all, put_number, put_list, put_lists, after_rows, put_rule, put_rules, after_width, rules_memo, targets_memo, put_down, LinesOk, ListOk, ListsOk, RuleOk, RulesOk, DraftOk}
use Rattle.spelling.proofs.Lexical.{count_on, kind_on}
use Rattle.spelling.proofs.Through.{through, step_on}
use Rattle.spelling.proofs.Taken.{entered, numbered, begun, entry-step, count_step, kind_step}

entries_on : (e : Entry) (xs : List (List Word)) (ds : List Due) (m : Memo) (rest : List (List Word)) → LinesOk e m xs → through (replicate (length xs) (entry e) ++ ds) m (xs ++ rest) ≡ through ds (puts_all m xs) rest
entries_on e [] ds m rest h = refl
entries_on e (ws ∷ xs) ds m rest h = step_on (entry e) (replicate (length xs) (entry e) ++ ds) m ws (xs ++ rest) (entered m ws) (entry-step e m ws h.0 h.1) ∙ entries_on e xs ds (puts m ws) rest h.2

count_taken : (c : Counting) (n : ℕ) (ds : List Due) (m : Memo) (wss rest : List (List Word)) → CountWritten c n wss rest → least c ≤ n → n ≤ most c → through (count c ∷ ds) m wss ≡ through (after_count c n ++ ds) (put_number m n c) rest
count_taken c n ds m wss rest w lo hi = ap (through (count c ∷ ds) m) w.begins ∙ step_on (count c) ds m w.line rest (numbered m c n) (count_step c m w.line n (count_on c n w.line w.says lo hi))

list_on : (c : Counting) (e : Entry) → ((n : ℕ) → after_count c n ≡ replicate n (entry e)) → (xs : List (List Word)) (ds : List Due) (m : Memo) (wss rest : List (List Word)) → ListWritten c xs wss rest → ListOk c e m xs → through (count c ∷ ds) m wss ≡ through ds (put_list c m xs) rest
list_on c e h xs ds m wss rest w ok =
    let n = length xs in
    count_taken c n ds m wss (xs ++ rest) (record { line = w.line; begins = w.begins; says = w.says }) ok.low ok.high
    ∙ ap (λ due. through (due ++ ds) (put_number m n c) (xs ++ rest)) (h n) ∙ entries_on e xs ds (put_number m n c) rest ok.lines

lists_on : (k : Kind) (r : RuleDraft) (ds : List Due) (m0 m : Memo) (wss mid rest : List (List Word)) → ListWritten counting.Rows r.rows wss mid → ListOk counting.Rows entries.Row m0 r.rows → m ≡ put_list counting.Rows m0 r.rows → ListsWritten k r mid rest → ListsOk k m r → through (after_kind k ++ ds) m0 wss ≡ through ds (put_lists k m r) rest
lists_on Functional r ds m0 m wss mid rest w ok e (next, left, right) (lok, rok) =
    list_on counting.Rows entries.Row (λ n. refl) r.rows (count counting.Left ∷ count counting.Right ∷ ds) m0 wss mid w ok
    ∙ ap (λ z. through (count counting.Left ∷ count counting.Right ∷ ds) z mid) (sym e)
    ∙ list_on counting.Left entries.Variable (λ n. refl) r.left (count counting.Right ∷ ds) m mid next left lok
    ∙ list_on counting.Right entries.Variable (λ n. refl) r.pairs ds (put_list counting.Left m r.left) next rest right rok
lists_on Equality r ds m0 m wss mid rest w ok e (none, pairs) pok =
    list_on counting.Rows entries.Row (λ n. refl) r.rows (count counting.Pairs ∷ ds) m0 wss mid w ok
    ∙ ap (λ z. through (count counting.Pairs ∷ ds) z mid) (sym e)
    ∙ list_on counting.Pairs entries.Pair (λ n. refl) r.pairs ds m mid rest pairs pok

rule-on : (r : RuleDraft) (ds : List Due) (m : Memo) (wss rest : List (List Word)) → RuleWritten r wss rest → RuleOk m r → through (kind ∷ ds) m wss ≡ through ds (put_rule m r) rest
rule-on r ds m wss rest w ok =
    let k = w.kind in
    ap (through (kind ∷ ds) m) k.begins
    ∙ step_on kind ds m k.line w.rows_from (begun m r.kind) (kind_step m k.line r.kind (kind_on r.kind k.line k.says))
    ∙ lists_on r.kind r ds (extend m (kind_word r.kind ∷ [])) (after_rows m r) w.rows_from w.lists_from rest w.rows ok.rows refl w.lists ok.lists

rules_on : (rs : List RuleDraft) (ds : List Due) (m : Memo) (wss rest : List (List Word)) → RulesWritten rs wss rest → RulesOk m rs → through (replicate (length rs) kind ++ ds) m wss ≡ through ds (put_rules m rs) rest
rules_on [] ds m wss rest w ok = ap (through ds m) w
rules_on (r ∷ rs) ds m wss rest (mid, w, ws) (ok, oks) = rule-on r (replicate (length rs) kind ++ ds) m wss mid w ok ∙ rules_on rs ds (put_rule m r) mid rest ws oks

pub draft_on : (d : Draft) (wss : List (List Word)) → DraftWritten d wss → DraftOk d → through whole_text nothing wss ≡ Ok (put_down d)
draft_on d wss w ok =
    count_taken counting.Width d.width (count counting.Rules ∷ count counting.Targets ∷ []) nothing wss w.rules_from w.width ok.some_width ok.small_width
    ∙ count_taken counting.Rules (length d.rules) (count counting.Targets ∷ []) (after_width d) w.rules_from w.first_from w.rules (omega arith) ok.few_rules
    ∙ rules_on d.rules (count counting.Targets ∷ []) (rules_memo d) w.first_from w.targets_from w.first ok.rules
    ∙ count_taken counting.Targets (length d.targets) [] (put_rules (rules_memo d) d.rules) w.targets_from w.second_from w.targets (omega arith) ok.few_targets
    ∙ rules_on d.targets [] (targets_memo d) w.second_from [] w.second ok.targets
