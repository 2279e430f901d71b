use Rattle.reader.specs.Reads.{lengths}
use Rattle.spelling.proofs.Telling.{telling, telling_exactly}
use Rattle.spelling.proofs.spelled.read.Goals as goal

pub returns : goal.returns
returns c =
    let n = lengths c.args.lent.now in
    let new = c.read.new.lent in
    let told = c.read.ensures in
    record { same = told.same; reads = told.reads; tells = telling n c.args.text.now c.layout_stands.ensures.written c.read.result new.rules.now new.targets.now new.names.now told.reads; exactly = telling_exactly n c.args.text.now c.read.result new.rules.now new.targets.now new.names.now told.reads }
