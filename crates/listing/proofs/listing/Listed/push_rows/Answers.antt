use Rattle.std.proofs.Common.{[], Some, length, get_or, string_bytes, codes, arith, sym, ◌∙◌}
use Rattle.std.proofs.lemmas.Option.{slice_get-get_or}
use Rattle.listing.specs.Listing.{row_text, rule_here}
use Rattle.listing.proofs.Steps.{rows_here, same_some, step, three_parts, whole}
use Rattle.listing.proofs.listing.Listed.push_rows.Goals as goal

pub loop-row-preserved : goal.loop-row-preserved
loop-row-preserved g c =
    let s = c.args.self.now in
    let rules = (g.B.Book.meaning s.book.now).rules in
    let pattern = (rule_here rules s.rule).pattern in
    let many = same_some _ _ (sym c.unwrap-rows.ensures ∙ (c.rows.ensures ∙ rows_here rules s.rule s.there)) in
    let there = slice_get-get_or pattern c.loop-row.row [] (omega arith) in
    step row_text pattern c.loop-row.row (Some (get_or pattern c.loop-row.row [])) _ _ _ (sym there) c.loop-row.invariant
    (three_parts (string_bytes c.loop-row.out) _ _ _ (codes "  row") _ (codes "\n") c.in_ok-push_str.ensures.bytes (c.in_ok-push_terms.ensures (get_or pattern c.loop-row.row []) there) c.in_ok-push_str-2.ensures.bytes)

pub returns : goal.returns
returns g c =
    let s = c.args.self.now in
    let rules = (g.B.Book.meaning s.book.now).rules in
    let pattern = (rule_here rules s.rule).pattern in
    let many = same_some _ _ (sym c.unwrap-rows.ensures ∙ (c.rows.ensures ∙ rows_here rules s.rule s.there)) in
    whole row_text pattern c.loop-row.row (length pattern) _ _ (omega arith) (omega arith) c.loop-row.invariant
