use Rattle.std.proofs.Common.{refl, ap, ◌∙◌, rules}
use Rattle.reader.specs.Format.{read_text}
use Rattle.reader.specs.Reads.{Lengths, lengths, rooms_in}
use Rattle.spelling.proofs.Theorems.{read-spells}
use Rattle.report.proofs.Whole.{closes_whole}
use Rattle.report.proofs.Sounds.{tells as tells_of, answers as answers_of}
use Rattle.report.proofs.report.report.Goals as goal

pub returns : goal.returns
returns c =
    let text = c.args.text.now in
    let l = lengths c.args.lent.now in
    let told = c.read_and_put-put.ensures in
    let after = c.clear_after.ensures in
    let read = c.read_and_put-put.new.lent in
    let whole = closes_whole (read_text (rooms_in l) text) text l _ c.read_and_put-put.new.out c.read_and_put-put.result read.rules.now read.targets.now read.names.now
    _ _ _ _ _ refl told.same (ap (λ (n : Lengths). n.rules) told.lent.sizes) (ap (λ (n : Lengths). n.targets) told.lent.sizes) (ap (λ (n : Lengths). n.names) told.lent.sizes)
    told.reads c.close.ensures.answer after.rules after.targets after.names c.close.ensures.places in
    let tells = tells_of c.layout_stands.ensures.written c.layout_stands.ensures.passing l text (read_text (rooms_in l) text) refl _ _ _ _ _ _ whole in
    let answers = answers_of c.layout_stands.ensures.written c.layout_stands.ensures.passing l text (read_text (rooms_in l) text) refl _ _ _ _ _ _ whole in
    record {
      same = record { rules = after.same.rules ∙ told.lent.rules; targets = after.same.targets ∙ told.lent.targets; names = after.same.names ∙ told.lent.names; sizes = after.same.sizes ∙ told.lent.sizes };
      spelled = λ m e. read-spells (rooms_in l) text m e;
      reports = search rules;
      tells = search rules;
      answers = search rules;
    }
