-- How merging goes on, by the record.
use Rattle.std.specs.Prelude.{◌≡◌, ℕ, ◌+◌, ◌<◌, Bool, true, false, min, max, List}
use Rattle.rules.specs.Rules.{Rule}
use Rattle.law.specs.declared.outcome.Stop.{Stop}
use Rattle.law.specs.declared.outcome.Stop.TheVariants.{Spent, Rest, Clash}
use Rattle.law.specs.Groups.{group_count}
use Rattle.law.specs.Runs.{AtRest, Clashing, Merges}
use Rattle.law.specs.Stored.{replaced}
use Rattle.search.specs.declared.spot.Spot.{Spot}
use Rattle.trial.specs.declared.held.Held.{Held}
use Rattle.trial.specs.Views.{rows_of, shows_of, groups_of}

-- h' is h after the merge at this spot
pub record MergedAt (h : Held) (s : Spot) (h' : Held) : Type 0 where
  pub target : h'.target ≡ h.target
  pub shown : h'.shown ≡ replaced (max s.one s.other) (min s.one s.other) h.shown
  pub count : h'.merges ≡ h.merges + 1
  pub clash : h'.clashed ≡ h.clashed
  pub turn : h'.at ≡ s.rule

-- h' is h after a clash at this spot
pub record ClashedAt (h : Held) (s : Spot) (h' : Held) : Type 0 where
  pub target : h'.target ≡ h.target
  pub shown : h'.shown ≡ h.shown
  pub count : h'.merges ≡ h.merges
  pub clash : h'.clashed ≡ true
  pub turn : h'.at ≡ s.rule

-- h' is h after m merges, each of which left one group less
pub record MergedOn (rules : List Rule) (h h' : Held) (m : ℕ) (clashed : Bool) : Type 0 where
  pub target : h'.target ≡ h.target
  pub count : h'.merges ≡ h.merges + m
  pub clash : h'.clashed ≡ clashed
  pub merges : Merges rules (rows_of h) (shows_of h) (shows_of h') m
  pub less : m + group_count (rows_of h) (shows_of h') ≡ groups_of h

-- and why it stopped, of at most n merges
abbrev pub Stopped : List Rule → ℕ → Held → Held → ℕ → Stop → Type 0
Stopped rules n h h' m Spent = MergedOn rules h h' m false × (m ≡ n)
Stopped rules n h h' m Rest = MergedOn rules h h' m false × (m < n) × AtRest rules (rows_of h) (shows_of h')
Stopped rules n h h' m Clash = MergedOn rules h h' m true × (m < n) × Clashing rules (rows_of h) (shows_of h')
