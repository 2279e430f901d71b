-- The lines that a summary names are those on which the rules and targets begin.
use Rattle.std.specs.Prelude.{◌≡◌, ℕ, ◌-◌, List, map, drop, Some}
use Rattle.std.specs.List.{slice_get}
use Rattle.text.specs.Lines.{lines_at}
use Rattle.text.specs.Words.{Word, words_at}
use Rattle.spelling.specs.Draft.{Draft, RuleDraft, RuleWritten, Spells}
use Rattle.spelling.specs.Book.{book_of, targets_of}
use Rattle.summary.specs.Summary.{rule_begins, target_begins}

-- the words of each line of a text
abbrev pub word_lines : List ℕ → List (List Word)
word_lines text = map (λ l. words_at l.place l.bytes) (lines_at 0 text)

-- the lines of the text from this one on begin with the rule as it is written
abbrev pub BeginsOn : List ℕ → ℕ → RuleDraft → Type 0
BeginsOn text line r = (rest : List (List Word)) × RuleWritten r (drop (line - 1) (word_lines text)) rest

pub record LinesStand : Type 0 where
  pub rules : (text : List ℕ) (d : Draft) → Spells text d → (i : ℕ) (r : RuleDraft) → slice_get d.rules i ≡ Some r →
      (line : ℕ) × (slice_get (rule_begins (book_of d)) i ≡ Some line) × BeginsOn text line r
  pub targets : (text : List ℕ) (d : Draft) → Spells text d → (i : ℕ) (r : RuleDraft) → slice_get d.targets i ≡ Some r →
      (line : ℕ) × (slice_get (target_begins (book_of d) (targets_of d)) i ≡ Some line) × BeginsOn text line r
