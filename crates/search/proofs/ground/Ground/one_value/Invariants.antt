use Rattle.rules.specs.Loaded.{loaded_term}
use Rattle.search.specs.Placings.{SoFar}
use Rattle.search.proofs.ground.Ground.one_value.Given as goal

abbrev pub invariant-loop-row : goal.invariant-loop-row
invariant-loop-row g l = SoFar (g.R.Relation.meaning l.self.relation.now).rows l.self.rule.now l.i (loaded_term l.self.rule.now l.i l.j) l.row l.found
