use Rattle.std.proofs.Common.{rules, ap}
use Rattle.reader.proofs.Beginnings.{lines_taken}
use Rattle.reader.proofs.reader.take_lines.Goals as goal

pub returns-clause-reads : goal.returns-clause-reads
returns-clause-reads c =
    let a = c.args in
    let told = c.take_text.ensures in
    lines_taken a.text.now a.rules.now a.targets.now a.names.now a.vars.now c.requires.empty c.requires.few c.take_text.new.self _ _ _ (ap (λ b. b.now) told.same.text) (search rules) (search rules) (search rules) c.take_text.result told.cases
