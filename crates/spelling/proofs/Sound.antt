-- What is read of lines is what some draft puts down, and they write it.
use Rattle.std.proofs.Common.{◌≡◌, ℕ, zero, suc, ◌≤◌, true, List, [], ◌∷◌, ◌++◌, length, replicate, Ok, decimal, sym, refl, ap, ◌∙◌, subst}
use Rattle.text.specs.Words.{Word}
use Rattle.rules.specs.declared.term.Kind.{Kind}
use Rattle.rules.specs.declared.term.Kind.TheVariants.{Functional, Equality}
use Rattle.sheets.specs.Layout.{kind_word}
use Rattle.reader.specs.declared.fault.Cause.TheVariants.{Lines}
use Rattle.reader.specs.declared.desk.Counting.{Counting}
use Rattle.reader.specs.declared.desk.Counting.TheVariants as counting
use Rattle.reader.specs.declared.desk.Entry.{Entry}
use Rattle.reader.specs.declared.desk.Entry.TheVariants as entries
use Rattle.reader.specs.Format.{Memo, Due, count, kind, entry, keyword, least, most, shaped, known, after_count, after_kind, words_line, whole_text, nothing}
use Rattle.spelling.specs.Draft.{RuleDraft, Draft, CountWritten, ListWritten, KindWritten, RuleWritten, RulesWritten, DraftWritten, extend, puts, puts_all, put_number, put_list, put_rule, put_rules, put_down, LinesOk, ListOk, RuleOk, RulesOk, DraftOk}
use Rattle.spelling.proofs.Endless.{E}
use Rattle.spelling.proofs.Lexical.{no_ok, then_ok, count_back, kind_back}
use Rattle.spelling.proofs.Taken.{entry-taken, count_taken, kind_taken}
use Rattle.spelling.proofs.Through.{through}

entry-back : (e : Entry) (ds : List Due) (m : Memo) (wss : List (List Word)) (y : Memo) → through (entry e ∷ ds) m wss ≡ Ok y → (ws : List Word) × (rest : List (List Word)) × (wss ≡ ws ∷ rest) × (shaped m.width ws e ≡ true) × (known m.vars ws e ≡ true) × (through ds (puts m ws) rest ≡ Ok y)
entry-back e ds m [] y q = no_ok Lines y q
entry-back e ds m (ws ∷ wss) y q =
    let t = then_ok (words_line E m ws (entry e)) (λ s. through (s.next ++ ds) s.memo wss) y q in
    let u = entry-taken e m ws t.0 t.1 in
    (ws, wss, refl, u.0, u.1, subst (λ s. through (s.next ++ ds) s.memo wss ≡ Ok y) u.2 t.2)

entries_back : (n : ℕ) (e : Entry) (ds : List Due) (m : Memo) (wss : List (List Word)) (y : Memo) → through (replicate n (entry e) ++ ds) m wss ≡ Ok y → (xs : List (List Word)) × (rest : List (List Word)) × (length xs ≡ n) × (wss ≡ xs ++ rest) × LinesOk e m xs × (through ds (puts_all m xs) rest ≡ Ok y)
entries_back zero e ds m wss y q = ([], wss, refl, refl, tt, q)
entries_back (suc n) e ds m wss y q =
    let a = entry-back e (replicate n (entry e) ++ ds) m wss y q in
    let b = entries_back n e ds (puts m a.0) a.1 y a.5 in
    (a.0 ∷ b.0, b.1, ap suc b.2, a.2 ∙ ap (λ z. a.0 ∷ z) b.3, (a.3, a.4, b.4), b.5)

count_inv : (c : Counting) (ds : List Due) (m : Memo) (wss : List (List Word)) (y : Memo) → through (count c ∷ ds) m wss ≡ Ok y → (n : ℕ) × (rest : List (List Word)) × CountWritten c n wss rest × (least c ≤ n) × (n ≤ most c) × (through (after_count c n ++ ds) (put_number m n c) rest ≡ Ok y)
count_inv c ds m [] y q = no_ok Lines y q
count_inv c ds m (ws ∷ wss) y q =
    let t = then_ok (words_line E m ws (count c)) (λ s. through (s.next ++ ds) s.memo wss) y q in
    let u = count_taken c m ws t.0 t.1 in
    let b = count_back c u.0 ws u.1 in
    (u.0, wss, record { line = ws; begins = refl; says = b.0 }, b.1, b.2, subst (λ s. through (s.next ++ ds) s.memo wss ≡ Ok y) u.2 t.2)

list_back : (c : Counting) (e : Entry) → ((n : ℕ) → after_count c n ≡ replicate n (entry e)) → (ds : List Due) (m : Memo) (wss : List (List Word)) (y : Memo) → through (count c ∷ ds) m wss ≡ Ok y → (xs : List (List Word)) × (rest : List (List Word)) × ListWritten c xs wss rest × ListOk c e m xs × (through ds (put_list c m xs) rest ≡ Ok y)
list_back c e h ds m wss y q =
    let a = count_inv c ds m wss y q in
    let n = a.0 in
    let b = entries_back n e ds (put_number m n c) a.1 y (subst (λ due. through (due ++ ds) (put_number m n c) a.1 ≡ Ok y) (h n) a.5) in
    let xs = b.0 in
    let len : n ≡ length xs = sym b.2 in (
      xs,
      b.1,
      record { line = a.2.line; begins = a.2.begins ∙ ap (λ z. a.2.line ∷ z) b.3; says = a.2.says ∙ ap (λ k. keyword c ∷ decimal k ∷ []) len },
      record { low = subst (λ k. least c ≤ k) len a.3; high = subst (λ k. k ≤ most c) len a.4; lines = subst (λ k. LinesOk e (put_number m k c) xs) len b.4 },
      subst (λ k. through ds (puts_all (put_number m k c) xs) b.1 ≡ Ok y) len b.5,
    )

abbrev Back : List Due → Memo → List (List Word) → Memo → Type 0
Back ds m wss y = (r : RuleDraft) × (rest : List (List Word)) × RuleWritten r wss rest × RuleOk m r × (through ds (put_rule m r) rest ≡ Ok y)

kind_rule : (k : Kind) (ds : List Due) (m : Memo) (wss from : List (List Word)) (y : Memo) → KindWritten k wss from → through (after_kind k ++ ds) (extend m (kind_word k ∷ [])) from ≡ Ok y → Back ds m wss y
kind_rule Functional ds m wss from y w q =
    let m0 = extend m (1 ∷ []) in
    let a = list_back counting.Rows entries.Row (λ n. refl) (count counting.Left ∷ count counting.Right ∷ ds) m0 from y q in
    let m1 = put_list counting.Rows m0 a.0 in
    let b = list_back counting.Left entries.Variable (λ n. refl) (count counting.Right ∷ ds) m1 a.1 y a.4 in
    let m2 = put_list counting.Left m1 b.0 in
    let c = list_back counting.Right entries.Variable (λ n. refl) ds m2 b.1 y b.4 in (
      record { kind = Functional; rows = a.0; left = b.0; pairs = c.0 },
      c.1,
      record { rows_from = from; lists_from = a.1; kind = w; rows = a.2; lists = (b.1, b.2, c.2) },
      record { rows = a.3; lists = (b.3, c.3) },
      c.4,
    )
kind_rule Equality ds m wss from y w q =
    let m0 = extend m (2 ∷ []) in
    let a = list_back counting.Rows entries.Row (λ n. refl) (count counting.Pairs ∷ ds) m0 from y q in
    let m1 = put_list counting.Rows m0 a.0 in
    let c = list_back counting.Pairs entries.Pair (λ n. refl) ds m1 a.1 y a.4 in (
      record { kind = Equality; rows = a.0; left = []; pairs = c.0 },
      c.1,
      record { rows_from = from; lists_from = a.1; kind = w; rows = a.2; lists = (refl, c.2) },
      record { rows = a.3; lists = c.3 },
      c.4,
    )

rule-back : (ds : List Due) (m : Memo) (wss : List (List Word)) (y : Memo) → through (kind ∷ ds) m wss ≡ Ok y → Back ds m wss y
rule-back ds m [] y q = no_ok Lines y q
rule-back ds m (ws ∷ wss) y q =
    let t = then_ok (words_line E m ws kind) (λ s. through (s.next ++ ds) s.memo wss) y q in
    let u = kind_taken m ws t.0 t.1 in
    kind_rule u.0 ds m (ws ∷ wss) wss y (record { line = ws; begins = refl; says = kind_back u.0 ws u.1 }) (subst (λ s. through (s.next ++ ds) s.memo wss ≡ Ok y) u.2 t.2)

rules_back : (n : ℕ) (ds : List Due) (m : Memo) (wss : List (List Word)) (y : Memo) → through (replicate n kind ++ ds) m wss ≡ Ok y → (rs : List RuleDraft) × (rest : List (List Word)) × (length rs ≡ n) × RulesWritten rs wss rest × RulesOk m rs × (through ds (put_rules m rs) rest ≡ Ok y)
rules_back zero ds m wss y q = ([], wss, refl, refl, tt, q)
rules_back (suc n) ds m wss y q =
    let a = rule-back (replicate n kind ++ ds) m wss y q in
    let b = rules_back n ds (put_rule m a.0) a.1 y a.4 in
    (a.0 ∷ b.0, b.1, ap suc b.2, (a.1, a.2, b.3), (a.3, b.4), b.5)

nothing_left : (m : Memo) (wss : List (List Word)) (y : Memo) → through [] m wss ≡ Ok y → (wss ≡ []) × (m ≡ y)
nothing_left m [] y q = (refl, (let e : m ≡ y = cc in e))
nothing_left m (ws ∷ wss) y q = no_ok Lines y q

pub draft_back : (wss : List (List Word)) (y : Memo) → through whole_text nothing wss ≡ Ok y → (d : Draft) × DraftWritten d wss × DraftOk d × (y ≡ put_down d)
draft_back wss y q =
    let w = count_inv counting.Width (count counting.Rules ∷ count counting.Targets ∷ []) nothing wss y q in
    let m0 = put_number nothing w.0 counting.Width in
    let n = count_inv counting.Rules (count counting.Targets ∷ []) m0 w.1 y w.5 in
    let r = rules_back n.0 (count counting.Targets ∷ []) (put_number m0 n.0 counting.Rules) n.1 y n.5 in
    let rn : n.0 ≡ length r.0 = sym r.2 in
    let m1 = put_rules (put_number m0 n.0 counting.Rules) r.0 in
    let k = count_inv counting.Targets [] m1 r.1 y r.5 in
    let t = rules_back k.0 [] (put_number m1 k.0 counting.Targets) k.1 y k.5 in
    let tn : k.0 ≡ length t.0 = sym t.2 in
    let e = nothing_left (put_rules (put_number m1 k.0 counting.Targets) t.0) t.1 y t.5 in
    let P : ℕ → Memo = λ i. put_number m0 i counting.Rules in
    let T : ℕ → ℕ → Memo = λ i j. put_number (put_rules (P i) r.0) j counting.Targets in (
      record { width = w.0; rules = r.0; targets = t.0 },
      record {
        rules_from = w.1;
        first_from = n.1;
        targets_from = r.1;
        second_from = k.1;
        width = w.2;
        rules = subst (λ i. CountWritten counting.Rules i w.1 n.1) rn n.2;
        first = r.3;
        targets = subst (λ j. CountWritten counting.Targets j r.1 k.1) tn k.2;
        second = subst (λ z. RulesWritten t.0 k.1 z) e.0 t.3;
      },
      record {
        some_width = w.3;
        small_width = w.4;
        few_rules = subst (λ i. i ≤ 256) rn n.4;
        rules = subst (λ i. RulesOk (P i) r.0) rn r.4;
        few_targets = subst (λ j. j ≤ 256) tn k.4;
        targets = subst (λ j. RulesOk (T (length r.0) j) t.0) tn (subst (λ i. RulesOk (T i k.0) t.0) rn t.4);
      },
      sym e.1 ∙ (λ i. put_rules (T (rn i) (tn i)) t.0),
    )
