use Rattle.std.proofs.Common.{◌≡◌, ◌++◌, string_bytes, codes, decimal, sym, ◌∙◌, rules}
use Rattle.rules.specs.Printed.{kind_name}
use Rattle.listing.specs.Listing.{rule_here}
use Rattle.listing.proofs.Steps.{kind_here, on_ok, rule_parts, same_some}
use Rattle.listing.proofs.listing.Listed.push.Goals as goal

pub returns : goal.returns
returns g c = on_ok c.push_lists.result c.push_lists.ensures (λ lists.
    let s = c.args.self.now in
    let rs = (g.B.Book.meaning s.book.now).rules in
    let kind = c.unwrap-kind.result in
    let same = same_some _ _ (sym c.unwrap-kind.ensures ∙ (c.kind.ensures ∙ kind_here rs s.rule s.there)) in
    let head : string_bytes c.write.new.self ≡ string_bytes c.args.out.now ++ (codes "rule " ++ (decimal s.rule ++ (codes ": " ++ (kind_name kind ++ codes "\n")))) = search rules in
    rule_parts s.rule (rule_here rs s.rule) kind _ _ _ _ same head c.in_ok-push_rows.ensures lists)
