use Rattle.std.proofs.Common.{◌≡◌, ◌-◌, map}
use Rattle.text.specs.Words.{word_in}
use Rattle.reader.specs.Format.{fits}
use Rattle.reader.specs.Held.{words_to}
use Rattle.reader.proofs.desk.Desk.fits.Given as goal

abbrev pub invariant-loop : goal.invariant-loop
invariant-loop l = fits (l.many - l.counter) (map (word_in l.self.text.now) l.words) ≡ fits l.many (words_to l.self l.end)
