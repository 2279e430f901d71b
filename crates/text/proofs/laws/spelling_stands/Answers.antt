use Rattle.text.proofs.Spelled.{words_are_spelled, lines_are_spelled}
use Rattle.text.proofs.Numbers.{counts_are_spelled}
use Rattle.text.proofs.laws.spelling_stands.Goals as goal

pub returns : goal.returns
returns c = record { words = words_are_spelled; lines = lines_are_spelled; counts = counts_are_spelled }
