use Rattle.std.proofs.Common.{ℕ, ◌<◌, List, [], ◌++◌, map, length, sym, ap, arith}
use Rattle.std.proofs.lemmas.List.{at_drop_more, at_drop_all}
use Rattle.pieces.specs.declared.word.Word.TheVariants.{Rows}
use Rattle.pieces.specs.Lines.{line_of}
use Rattle.pieces.proofs.Steps.{then-puts, exit_puts, as_puts, same_refl, put-none}
use Rattle.writing.specs.Outcomes.{rows_of}
use Rattle.writing.specs.Reports.{lines_text, count_line, row_line}
use Rattle.writing.proofs.Parted.{put-within}
use Rattle.writing.proofs.naming.Naming.put_rows.Goals as goal

pub returns-in_err-put_count : goal.returns-in_err-put_count
returns-in_err-put_count g c =
    let rows = rows_of (g.F.Told.outcome c.args.told.now) in
    as_puts (ap (λ n. line_of [] (count_line Rows n) ++ lines_text c.args.self.now.text.now (map (row_line c.args.self.now.names.now) rows)) c.requires)
    (exit_puts _ c.from_residual.ensures.1 _ c.in_err-put_count.ensures)

pub returns-in_err-put_row : goal.returns-in_err-put_row
returns-in_err-put_row g c =
    let rows = rows_of (g.F.Told.outcome c.args.told.now) in
    let all : List (List ℕ) → List ℕ = λ xs. lines_text c.args.self.now.text.now (map (row_line c.args.self.now.names.now) xs) in
    let h : c.loop-row.row < length rows = omega (arith, c.requires) in
    as_puts (ap (λ n. line_of [] (count_line Rows n) ++ all rows) c.requires)
    (then-puts _ c.in_ok-put_count.ensures (c.loop-row.invariant.1 _ _ (as_puts (sym (at_drop_more all rows c.loop-row.row [] h))
    (exit_puts _ c.from_residual-in_err-put_row.ensures.1 _ c.in_err-put_row.ensures))))

pub loop-row-preserved : goal.loop-row-preserved
loop-row-preserved g c =
    let rows = rows_of (g.F.Told.outcome c.args.told.now) in
    let all : List (List ℕ) → List ℕ = λ xs. lines_text c.args.self.now.text.now (map (row_line c.args.self.now.names.now) xs) in
    let h : c.loop-row.row < length rows = omega (arith, c.requires) in
    let this = c.in_ok-put_row.ensures in
    (put-within this.same this.cases, λ r b p. c.loop-row.invariant.1 r b (as_puts (sym (at_drop_more all rows c.loop-row.row [] h)) (then-puts _ this p)))

pub returns : goal.returns
returns g c =
    let rows = rows_of (g.F.Told.outcome c.args.told.now) in
    let all : List (List ℕ) → List ℕ = λ xs. lines_text c.args.self.now.text.now (map (row_line c.args.self.now.names.now) xs) in
    let here = c.loop-row.out in
    as_puts (ap (λ n. line_of [] (count_line Rows n) ++ all rows) c.requires)
    (then-puts _ c.in_ok-put_count.ensures (c.loop-row.invariant.1 _ _ (as_puts (sym (at_drop_all all rows c.loop-row.row (omega (arith, c.requires))))
    (record { same = same_refl here; cases = put-none here c.loop-row.invariant.0 }))))
