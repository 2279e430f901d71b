-- What a line that is taken puts down, with endless room.
use Rattle.std.proofs.Common.{◌≡◌, ℕ, true, List, [], ◌∷◌, Ok, ap, ◌∙◌}
use Rattle.std.proofs.lemmas.Bool.{cond-true}
use Rattle.text.specs.Words.{Word}
use Rattle.rules.specs.declared.term.Kind.{Kind}
use Rattle.sheets.specs.Layout.{kind_word}
use Rattle.reader.specs.declared.fault.Cause.TheVariants.{Form, Unknown}
use Rattle.reader.specs.declared.desk.Counting.{Counting}
use Rattle.reader.specs.declared.desk.Entry.{Entry}
use Rattle.reader.specs.Format.{Memo, Step, count, kind, entry, then, count_line, put_count, kind_line, put_word, entry_line, shaped, known, after_count, after_kind, words_line}
use Rattle.spelling.specs.Draft.{extend, puts, put_number}
use Rattle.spelling.proofs.Endless.{E, word_e, terms_e, count_e}
use Rattle.spelling.proofs.Lexical.{then_ok, cond_ok}

abbrev pub entered : Memo → List Word → Step
entered m ws = record { next = []; memo = puts m ws }

abbrev pub numbered : Memo → Counting → ℕ → Step
numbered m c n = record { next = after_count c n; memo = put_number m n c }

abbrev pub begun : Memo → Kind → Step
begun m k = record { next = after_kind k; memo = extend m (kind_word k ∷ []) }

pub entry-step : (e : Entry) (m : Memo) (ws : List Word) → shaped m.width ws e ≡ true → known m.vars ws e ≡ true → words_line E m ws (entry e) ≡ Ok (entered m ws)
entry-step e m ws s k = ap (λ o. then o (λ n. Ok (record { next = []; memo = n }))) (cond-true (shaped m.width ws e) _ _ s ∙ cond-true (known m.vars ws e) _ _ k ∙ terms_e m ws)

pub count_step : (c : Counting) (m : Memo) (ws : List Word) (n : ℕ) → count_line c ws ≡ Ok n → words_line E m ws (count c) ≡ Ok (numbered m c n)
count_step c m ws n h = ap (λ o. then o (λ i. then (put_count E m i c) (λ k. Ok (record { next = after_count c i; memo = k })))) h ∙ ap (λ o. then o (λ k. Ok (record { next = after_count c n; memo = k }))) (count_e m n c)

pub kind_step : (m : Memo) (ws : List Word) (k : Kind) → kind_line ws ≡ Ok k → words_line E m ws kind ≡ Ok (begun m k)
kind_step m ws k h = ap (λ o. then o (λ i. then (put_word E m (kind_word i)) (λ n. Ok (record { next = after_kind i; memo = n })))) h ∙ ap (λ o. then o (λ n. Ok (record { next = after_kind k; memo = n }))) (word_e m (kind_word k))

-- and back

pub entry-taken : (e : Entry) (m : Memo) (ws : List Word) (s : Step) → words_line E m ws (entry e) ≡ Ok s → (shaped m.width ws e ≡ true) × (known m.vars ws e ≡ true) × (s ≡ entered m ws)
entry-taken e m ws s q =
    let u = then_ok (entry_line E m ws e) (λ k. Ok (record { next = []; memo = k })) s q in
    let a = cond_ok (shaped m.width ws e) _ Form u.0 u.1 in
    let b = cond_ok (known m.vars ws e) _ Unknown u.0 a.1 in
    let is : s ≡ entered m ws = cc (q, entry-step e m ws a.0 b.0) in
    (a.0, b.0, is)

pub count_taken : (c : Counting) (m : Memo) (ws : List Word) (s : Step) → words_line E m ws (count c) ≡ Ok s → (n : ℕ) × (count_line c ws ≡ Ok n) × (s ≡ numbered m c n)
count_taken c m ws s q =
    let u = then_ok (count_line c ws) (λ n. then (put_count E m n c) (λ k. Ok (record { next = after_count c n; memo = k }))) s q in
    let is : s ≡ numbered m c u.0 = cc (q, count_step c m ws u.0 u.1) in
    (u.0, u.1, is)

pub kind_taken : (m : Memo) (ws : List Word) (s : Step) → words_line E m ws kind ≡ Ok s → (k : Kind) × (kind_line ws ≡ Ok k) × (s ≡ begun m k)
kind_taken m ws s q =
    let u = then_ok (kind_line ws) (λ k. then (put_word E m (kind_word k)) (λ n. Ok (record { next = after_kind k; memo = n }))) s q in
    let is : s ≡ begun m u.0 = cc (q, kind_step m ws u.0 u.1) in
    (u.0, u.1, is)
