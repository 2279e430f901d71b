-- The verdict, by the record.
use Rattle.std.specs.Prelude.{◌≡◌, true, false, ◌⊎◌}
use Rattle.rules.specs.Loaded.{meant}
use Rattle.law.specs.declared.outcome.Verdict.{Verdict}
use Rattle.law.specs.declared.outcome.Verdict.TheVariants.{Void, Follows, Fails}
use Rattle.law.specs.Runs.{Reached}
use Rattle.trial.specs.declared.held.Held.{Held}
use Rattle.trial.specs.Views.{shows_of}

-- both sides of each pair show alike
abbrev pub AllAlike : Held → Type 0
AllAlike h = Reached (meant h.target).pairs (shows_of h)

-- the verdict once merging has ended
abbrev pub Judged : Held → Verdict → Type 0
Judged h Void = ⊥
Judged h Follows = (h.clashed ≡ true) ⊎ AllAlike h
Judged h Fails = (h.clashed ≡ false) × (AllAlike h → ⊥)
