-- How long the lines of a report are.
use Rattle.std.proofs.Common.{ℕ, ◌+◌, ◌-◌, ◌*◌, ◌^◌, ◌<◌, ◌≤◌, ltb, List, [], ◌∷◌, ◌++◌, map, length, get_or, drop, decimal, sym, subst, ⊎_elim, arith}
use Rattle.std.specs.List.{AllByRecursion}
use Rattle.std.proofs.lemmas.List.{length-append, length-take, get_or_past}
use Rattle.std.proofs.ByRecursion.{All-get_or}
use Rattle.std.proofs.lemmas.Bool.{cases_lt, cond-true, cond-false, lt-ltb, le-ltb}
use Rattle.std.proofs.lemmas.Fmt.{length-decimal-le}
use Rattle.rules.specs.declared.refusal.Refusal.{Refusal}
use Rattle.rules.specs.declared.refusal.Layer.{Layer}
use Rattle.rules.specs.declared.refusal.Layer.TheVariants as layer
use Rattle.text.specs.declared.words.Name.{Name}
use Rattle.text.specs.Words.{part}
use Rattle.pieces.specs.declared.word.Word.TheVariants as word
use Rattle.pieces.specs.Table.{bytes_of, layer_word}
use Rattle.pieces.specs.Lines.{spell, line_of, after}
use Rattle.writing.specs.Outcomes.{Outcome, Follows, Fails}
use Rattle.writing.specs.Reports
use Rattle.writing.specs.Fitting.{whole}
use Rattle.writing.specs.Enough.{SmallRow, Small, Modest, enough, Enough}

name_short : (text : List ℕ) (n : Name) → n.length ≤ 24 → length (part text n) ≤ 24
name_short text n h = omega (arith, length-take n.length (drop n.place text))

entry-short : (text : List ℕ) (names : List Name) (e : ℕ) → AllByRecursion (λ n. n.length ≤ 24) names → e < 2 ^ 32 → length (spell text (Reports.entry_piece names e)) ≤ 24
entry-short text names e short small = ⊎_elim
    (λ low. subst (λ p. length (spell text p) ≤ 24) (sym (cond-true (ltb e 16777216) _ _ (lt-ltb _ _ low)))
    (name_short text (get_or names e Reports.no_name) (⊎_elim
    (λ h. All-get_or (λ n. n.length ≤ 24) names e Reports.no_name h short)
    (λ h. subst (λ n. n.length ≤ 24) (sym (get_or_past names e Reports.no_name h)) (omega arith))
    (cases_lt e (length names)))))
    (λ high. subst (λ p. length (spell text p) ≤ 24) (sym (cond-false (ltb e 16777216) _ _ (le-ltb _ _ high)))
    (omega (arith, length-decimal-le 10 (e - 16777216) (omega arith) (omega arith) (omega arith))))
    (cases_lt e 16777216)

after-short : (text : List ℕ) (names : List Name) (row : List ℕ) → AllByRecursion (λ n. n.length ≤ 24) names → AllByRecursion (λ e. e < 2 ^ 32) row → length (after text (Reports.row_line names row)) ≤ 1 + 25 * length row
after-short text names [] short small = omega arith
after-short text names (e ∷ row) short small =
    let this = entry-short text names e short small.0 in
    let rest = after-short text names row short small.1 in
    omega (arith, length-append (spell text (Reports.entry_piece names e)) (after text (Reports.row_line names row)))

row_short : (text : List ℕ) (names : List Name) (row : List ℕ) → AllByRecursion (λ n. n.length ≤ 24) names → SmallRow row → length (line_of text (Reports.row_line names row)) ≤ 200
row_short text names [] short small = omega arith
row_short text names (e ∷ row) short small =
    let this = entry-short text names e short small.words.0 in
    let rest = after-short text names row short small.words.1 in
    let wide = small.wide in
    omega (arith, length-append (spell text (Reports.entry_piece names e)) (after text (Reports.row_line names row)))

rows_short : (text : List ℕ) (names : List Name) (rows : List (List ℕ)) → AllByRecursion (λ n. n.length ≤ 24) names → AllByRecursion SmallRow rows → length (Reports.lines_text text (map (Reports.row_line names) rows)) ≤ 200 * length rows
rows_short text names [] short small = omega arith
rows_short text names (r ∷ rows) short small =
    let this = row_short text names r short small.0 in
    let rest = rows_short text names rows short small.1 in
    omega (arith, length-append (line_of text (Reports.row_line names r)) (Reports.lines_text text (map (Reports.row_line names) rows)))

-- `rows` and one digit
rows-line_short : (text : List ℕ) (n : ℕ) → n ≤ 8 → length (line_of text (Reports.count_line word.Rows n)) ≤ 7
rows-line_short text n h = omega (arith, length-append (decimal n) (10 ∷ []), length-decimal-le 1 n (omega arith) (omega arith) (omega arith))

targets_line_short : (n : ℕ) → n ≤ 256 → length (Reports.first_line n) ≤ 12
targets_line_short n h = omega (arith, length-append (decimal n) (10 ∷ []), length-decimal-le 3 n (omega arith) (omega arith) (omega arith))

follows_line_short : (text : List ℕ) (i : ℕ) → i ≤ 256 → length (line_of text (Reports.verdict_line i word.Follows)) ≤ 19
follows_line_short text i h = omega (arith, length-append (decimal i) (32 ∷ (bytes_of word.Follows ++ 10 ∷ [])), length-decimal-le 3 i (omega arith) (omega arith) (omega arith))

fails_line_short : (text : List ℕ) (i : ℕ) → i ≤ 256 → length (line_of text (Reports.verdict_line i word.Fails)) ≤ 17
fails_line_short text i h = omega (arith, length-append (decimal i) (32 ∷ (bytes_of word.Fails ++ 10 ∷ [])), length-decimal-le 3 i (omega arith) (omega arith) (omega arith))

target_short : (text : List ℕ) (names : List Name) (i : ℕ) (o : Outcome) → AllByRecursion (λ n. n.length ≤ 24) names → i ≤ 256 → Small o → length (Reports.target_text text names i o) ≤ 1624
target_short text names i Follows short h small =
    omega (arith, follows_line_short text i h, length-append (line_of text (Reports.verdict_line i word.Follows)) [])
target_short text names i (Fails rows) short h small =
    let few = small.few in
    let verdict = fails_line_short text i h in
    let count = rows-line_short text (length rows) few in
    let rest = rows_short text names rows short small.each in
    omega (
      arith,
      length-append (line_of text (Reports.verdict_line i word.Fails)) (Reports.lines_text text (Reports.rows_lines names rows)),
      length-append (line_of text (Reports.count_line word.Rows (length rows))) (Reports.lines_text text (map (Reports.row_line names) rows)),
    )

targets_short : (text : List ℕ) (names : List Name) (i : ℕ) (os : List Outcome) → AllByRecursion (λ n. n.length ≤ 24) names → i + length os ≤ 257 → AllByRecursion Small os → length (whole (Reports.target_texts text names i os)) ≤ 1624 * length os
targets_short text names i [] short h small = omega arith
targets_short text names i (o ∷ os) short h small =
    let this = target_short text names i o short (omega arith) small.0 in
    let rest = targets_short text names (i + 1) os short (omega arith) small.1 in
    omega (arith, length-append (Reports.target_text text names i o) (whole (Reports.target_texts text names (i + 1) os)))

pub report_enough : (text : List ℕ) (names : List Name) (os : List Outcome) → Modest names os → length (whole (Reports.parts text names os)) ≤ enough
unfolding enough
report_enough text names os m =
    let first = targets_line_short (length os) m.few in
    let few = m.few in
    let rest = targets_short text names 1 os m.short (omega arith) m.each in
    omega (arith, length-append (Reports.first_line (length os)) (whole (Reports.target_texts text names 1 os)))

layer_short : (l : Layer) → length (bytes_of (layer_word l)) ≤ 6
layer_short layer.Reader = omega arith
layer_short layer.Book = omega arith
layer_short layer.Join = omega arith
layer_short layer.Trial = omega arith
layer_short layer.Report = omega arith

pub refusal_enough : (r : Refusal) → r.number < 256 → r.place < 2 ^ 64 → length (Reports.refusal_text r) ≤ 40
refusal_enough r number place =
    let name = bytes_of (layer_word r.layer) in
    omega (
      arith,
      layer_short r.layer,
      length-decimal-le 3 r.number (omega arith) (omega arith) (omega arith),
      length-decimal-le 20 r.place (omega arith) (omega arith) (omega arith),
      length-append (decimal r.number) (32 ∷ (name ++ 32 ∷ (decimal r.place ++ 10 ∷ []))),
      length-append name (32 ∷ (decimal r.place ++ 10 ∷ [])),
      length-append (decimal r.place) (10 ∷ []),
    )

pub always_enough : Enough
always_enough = record { report = report_enough; refusal = refusal_enough }
