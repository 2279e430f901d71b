use Rattle.text.proofs.Parts.{named}
use Rattle.text.proofs.line_words.Words.of_line.Goals as goal

pub returns-clause-words : goal.returns-clause-words
returns-clause-words c = (named c.args.text.now c.args.from c.args.end c.min-end.result c.min-place.result c.min-end.ensures c.min-place.ensures).1

pub returns-clause-stand : goal.returns-clause-stand
returns-clause-stand c = (named c.args.text.now c.args.from c.args.end c.min-end.result c.min-place.result c.min-end.ensures c.min-place.ensures).0
