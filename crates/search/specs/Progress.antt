-- A look at one rule, by the choices for the first row of its pattern.
use Rattle.std.specs.Prelude.{◌≡◌, ℕ, ◌<◌, ◌≤◌, List, length, replicate, Option}
use Rattle.rules.specs.declared.term.Kind.TheVariants.{Functional, Equality}
use Rattle.rules.specs.Rules.{Relation, Rule}
use Rattle.rules.specs.Loaded.{OfBook}
use Rattle.search.specs.declared.choices.Choices.{Choices}
use Rattle.search.specs.declared.look.Grouping.{Grouping}
use Rattle.search.specs.declared.look.Walking.{Walking}
use Rattle.search.specs.declared.look.Look.{Look}
use Rattle.search.specs.declared.look.Look.TheVariants.{Groups, Walk}
use Rattle.rules.specs.declared.loaded.LoadedRule.{LoadedRule}
use Rattle.search.specs.declared.seen.Seen.{Seen}
use Rattle.search.specs.declared.spot.Spot.{Spot}
use Rattle.search.specs.Placings.{arranged, Bounded, chosen, Fitting, Groupable, Joins, Planned, Rearranges, Sound, With}
use Rattle.search.specs.Seens.{Turn}
use Rattle.search.specs.Spots.{Looked, LookedAt}

-- what a look in groups is ready with
pub record GroupReady (rel : Relation) (look : Grouping) : Type 0 where
  pub few : length rel ≤ 8
  pub of : OfBook look.own
  pub functional : look.own.kind ≡ Functional
  pub same : look.rule ≡ arranged look.own look.rule.rows
  pub order : Rearranges look.own look.rule look.places
  pub groupable : Groupable look.rule
  pub planned : Planned look.rule look.plan
  pub bounded : Bounded look.rule look.bound
  pub fitting : Fitting rel look.rule

-- what a look at one placing at a time is ready with
pub record WalkReady (rel : Relation) (look : Walking) : Type 0 where
  pub sound : Sound look.rule
  pub equality : look.rule.kind ≡ Equality
  pub planned : Planned look.rule look.plan
  pub fitting : Fitting rel look.rule

-- the first m choices for the first row were tried, and the table holds what came of them
pub record GroupTried (rel : Relation) (d : Choices) (seen : Seen) (look : Grouping) (m : ℕ) : Type 0 where
  pub ready : GroupReady rel look
  pub before : Seen
  pub empty : before.used ≡ 0
  pub turn : Turn rel look.rule look.plan d before seen 0 (replicate 4 0) m

pub record WalkTried (rel : Relation) (d : Choices) (look : Walking) (m : ℕ) : Type 0 where
  pub ready : WalkReady rel look
  pub tried : (k : ℕ) → k < m → With rel look.rule 0 (replicate 8 0) (chosen d k) (Joins look.rule)

abbrev pub Progress : Relation → Choices → Seen → Look → ℕ → Type 0
Progress rel d seen (Groups look) m = GroupTried rel d seen look m
Progress rel d seen (Walk look) m = WalkTried rel d look m

-- the number of the rule that is looked at, and the rule: an own rule or a doubled form
abbrev pub look_number : Look → ℕ
look_number (Groups look) = look.number
look_number (Walk look) = look.number

abbrev pub look_rule : Look → LoadedRule
look_rule (Groups look) = look.own
look_rule (Walk look) = look.rule

-- what is found of rule number n, the rule q, is found of rule i of the book
abbrev pub Links : Relation → List Rule → Rule → ℕ → ℕ → Type 0
Links rel rules q n i = (o : Option Spot) → Looked rel q n o → LookedAt rel rules i o
