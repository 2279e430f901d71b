-- Adding line by line.
use Rattle.std.proofs.Common.{◌≡◌, ℕ, ◌+◌, ◌<◌, ◌≤◌, List, [], ◌∷◌, ◌++◌, length, get_or, drop, Some, None, Option, MatchOption, sym, ap, ◌∙◌, append_assoc}
use Rattle.std.proofs.lemmas.List.FromFn.{length-map-range_with_len}
use Rattle.std.proofs.lemmas.List.{drop_more}
use Rattle.std.proofs.lemmas.Option.{slice_get_past}
use Rattle.std.specs.List.{slice_get}
use Rattle.rules.specs.declared.loaded.LoadedRule.{LoadedRule}
use Rattle.rules.specs.declared.term.Kind.TheVariants.{Equality}
use Rattle.rules.specs.Books.{BookMeaning}
use Rattle.rules.specs.Loaded.{Loaded, Sized, left_var, meant, meant_row, loaded_pair}
use Rattle.rules.specs.Rules.{Rule}
use Rattle.rules.proofs.Copies.{sized}
use Rattle.rules.proofs.Nths.{some_none, some_same}
use Rattle.summary.specs.Summary.{list_lines, rule_lines, begins, after, begin_text, begins_text}

-- a loaded rule has as many rows, left variables and pairs as it counts
pub lines_meant : (l : LoadedRule) → (2 + l.row_count) + list_lines l.kind l.left_count l.pair_count ≡ rule_lines (meant l)
lines_meant l =
    let a = sym (length-map-range_with_len (meant_row l) 0 l.row_count) in
    let b = sym (length-map-range_with_len (left_var l) 0 l.left_count) in
    let c = sym (length-map-range_with_len (loaded_pair l) 0 l.pair_count) in
    (λ i. (2 + a i) + list_lines l.kind (b i) (c i))

-- what was loaded has counts within its arrays
pub loaded_sized : (b : BookMeaning) (i : ℕ) (l : LoadedRule) → Loaded b i l → Sized l
loaded_sized b i l loaded = sized l loaded.of_book

-- and its lines are those of the rule at its number
pub lines_there : (b : BookMeaning) (i : ℕ) (l : LoadedRule) → Loaded b i l → (it : Rule) → slice_get b.rules i ≡ Some it → rule_lines (meant l) ≡ rule_lines it
lines_there b i l loaded it there = ap rule_lines (some_same (meant l) it (sym loaded.is ∙ there))

-- past the end there is no rule
pub none_there : {X : Type 0} (b : BookMeaning) (i : ℕ) → length b.rules ≤ i → (it : Rule) → slice_get b.rules i ≡ Some it → X
none_there b i past it there = absurd (some_none it (sym there ∙ slice_get_past b.rules i past))

-- so many lines, counted of what was loaded, or none past the end
pub counted : (b : BookMeaning) (i n : ℕ) (o : Option LoadedRule) (P : LoadedRule → Type 0) → MatchOption o (length b.rules ≤ i) (Loaded b i) → MatchOption o (n ≡ 0) P →
    ((l : LoadedRule) → P l → n ≡ rule_lines (meant l)) → (it : Rule) → slice_get b.rules i ≡ Some it → n ≡ rule_lines it
counted b i n None P past z lines it there = none_there b i past it there
counted b i n (Some l) P loaded p lines it there = lines l p ∙ lines_there b i l loaded it there

-- any rule, for the look-up past an end
abbrev pub some_rule : Rule
some_rule = record { kind = Equality; pattern = []; left = []; pairs = [] }

module _ (rules : List Rule) (i : ℕ) (h : i < length rules) where
  pub next_rule : drop i rules ≡ get_or rules i some_rule ∷ drop (i + 1) rules
  next_rule = drop_more rules i some_rule h

  pub after-step : (line n all : ℕ) → n ≡ rule_lines (get_or rules i some_rule) → after line (drop i rules) ≡ all → after (line + n) (drop (i + 1) rules) ≡ all
  after-step line n all e f = ap (λ k. after (line + k) (drop (i + 1) rules)) e ∙ (sym (ap (after line) next_rule) ∙ f)

  pub begins-step : (what : List ℕ) (line n : ℕ) (before now-is all : List ℕ) → n ≡ rule_lines (get_or rules i some_rule) →
      now-is ≡ before ++ begin_text what (i + 1) line →
      before ++ begins_text what (i + 1) (begins line (drop i rules)) ≡ all →
      now-is ++ begins_text what (i + 1 + 1) (begins (line + n) (drop (i + 1) rules)) ≡ all
  begins-step what line n before now-is all e f g =
      let d : begins_text what (i + 1) (begins line (drop i rules)) ≡ begin_text what (i + 1) line ++ begins_text what (i + 1 + 1) (begins (line + rule_lines (get_or rules i some_rule)) (drop (i + 1) rules)) = ap (λ rs. begins_text what (i + 1) (begins line rs)) next_rule in
      let a = append_assoc before (begin_text what (i + 1) line) (begins_text what (i + 1 + 1) (begins (line + rule_lines (get_or rules i some_rule)) (drop (i + 1) rules))) in
      let b : begins_text what (i + 1 + 1) (begins (line + n) (drop (i + 1) rules)) ≡ begins_text what (i + 1 + 1) (begins (line + rule_lines (get_or rules i some_rule)) (drop (i + 1) rules)) = ap (λ k. begins_text what (i + 1 + 1) (begins (line + k) (drop (i + 1) rules))) e in
      cc
