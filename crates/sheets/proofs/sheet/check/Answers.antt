use Rattle.std.proofs.lemmas.Result.{err_from_is_err_and}
use Rattle.sheets.proofs.Theorems.{passing_is_written, failing_is_first, read_back, never_back}
use Rattle.sheets.proofs.sheet.check.Goals as goal

pub returns-in_err-table : goal.returns-in_err-table
returns-in_err-table c =
    let words = c.args.words.now in
    let h = c.in_err-table.ensures in
    let p = err_from_is_err_and c.from_residual.result c.from_residual.ensures.1 in
    rw (p.1, p.2) (record { answers = failing_is_first words _ h; reads = never_back words _ h _ })

pub returns : goal.returns
returns c =
    let words = c.args.words.now in
    let h = c.in_ok-table.ensures in
    record { answers = (passing_is_written words _ h.passing).1; reads = read_back words _ h.passing }
