use Rattle.text.proofs.Parts.{next_here}
use Rattle.text.proofs.words.next_in.Goals as goal

pub returns : goal.returns
returns c = next_here c.args.text.now c.args.from c.args.end c.of_line.result _ c.next.result c.of_line.ensures.words c.of_line.ensures.stand c.next.ensures.steps
