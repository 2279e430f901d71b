use Rattle.std.proofs.Common.{◌≡◌, map}
use Rattle.std.specs.List.{AllByRecursion}
use Rattle.text.specs.Words.{word_in}
use Rattle.reader.specs.Format.{put_terms}
use Rattle.reader.specs.Lists.{Inside}
use Rattle.reader.specs.Held.{held, rooms_of, words_to, Sames}
use Rattle.reader.proofs.desk.Desk.put_terms.Given as goal

abbrev pub invariant-loop-w : goal.invariant-loop-w
invariant-loop-w l = record {
  same : Sames l.fn.self l.self;
  at : l.self.at ≡ l.fn.self.at;
  inside : AllByRecursion (Inside l.self.text.now) l.w-iterator;
  left : put_terms (rooms_of l.fn.self) (held l.self) (map (word_in l.self.text.now) l.w-iterator) ≡ put_terms (rooms_of l.fn.self) (held l.fn.self) (words_to l.fn.self l.fn.end);
}
