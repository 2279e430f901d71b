use Rattle.spelling.proofs.Filling.{fitting_reads, read_fits, refused-room}
use Rattle.spelling.proofs.Theorems.{read-spells, spelled_reads, spells_one, refused-spells_nothing, refused-lines}
use Rattle.spelling.proofs.Unique.{spells_one_book}
use Rattle.spelling.proofs.laws.reading_stands.Goals as goal

pub returns : goal.returns
returns c = record { read = read-spells; spelled = spelled_reads; one = spells_one; refused = refused-spells_nothing; lines = refused-lines; fits = read_fits; fitting = fitting_reads; alone = spells_one_book; room = refused-room }
