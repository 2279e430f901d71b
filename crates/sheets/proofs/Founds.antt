-- What an opened sheet knows of its rules.
use Rattle.std.proofs.Common.{◌≡◌, ℕ, zero, suc, ◌<◌, ◌≤◌, List, length, get_or, Some, Ok, Err, sym, refl, ◌∙◌, subst, arith}
use Rattle.std.specs.List.{slice_get}
use Rattle.sheets.specs.Walk.{Out, rule_end, rules_end, sheet_end}
use Rattle.sheets.specs.Reads.{end_of, rule_at, rules_at, meaning_by, sheet_meaning}
use Rattle.sheets.specs.Facts.{start_of, Whole, Tabled, Opened}
use Rattle.sheets.specs.Wholes.{then_ok, word_ok, whole_from}
use Rattle.sheets.specs.Wells.{rules_length}
use Rattle.sheets.specs.declared.table.Opening.{Opening}
use Rattle.std.specs.Result.{result_unwrap_or, MatchResult}

pub rules_nth : (words : List ℕ) (width n at i : ℕ) → i < n → slice_get (rules_at words width n at) i ≡ Some (rule_at words width (start_of words width i at))
rules_nth words width zero at i h = absurd (omega arith)
rules_nth words width (suc n) at zero h = refl
rules_nth words width (suc n) at (suc i) h = rules_nth words width n (end_of words width at) i (omega arith)

pub wholes : (words : List ℕ) (width n at e i : ℕ) → width ≤ 8 → rules_end words width n at ≡ Ok e → i < n → Whole words width (start_of words width i at)
wholes words width zero at e i narrow h l = absurd (omega arith)
wholes words width (suc n) at e zero narrow h l =
    let t = then_ok (rule_end words width at) (λ next. rules_end words width n next) e h in
    (whole_from words width at t.0 narrow t.1).1
wholes words width (suc n) at e (suc i) narrow h l =
    let t = then_ok (rule_end words width at) (λ next. rules_end words width n next) e h in
    let w = whole_from words width at t.0 narrow t.1 in
    wholes words width n (end_of words width at) e i narrow (subst (λ (x : ℕ). rules_end words width n x ≡ Ok e) w.0 t.2) (omega arith)

pub record Kept (words : List ℕ) (o : Out ℕ) (width count : ℕ) : Type 0 where
  pub few : count ≤ 256
  pub whole : (i : ℕ) → i < count → Whole words width (start_of words width i 2)
  pub rule_is : (i : ℕ) → i < count → slice_get (meaning_by words o).rules i ≡ Some (rule_at words width (start_of words width i 2))

kept_by : (words : List ℕ) (o : Out ℕ) → sheet_end words ≡ o → (width count : ℕ) → (meaning_by words o).width ≡ width → length (meaning_by words o).rules ≡ count → Kept words o width count
kept_by words (Ok e) h width count wide many =
    let w = word_ok 1 8 words 0 _ e h in
    let n = word_ok 0 256 words 1 _ e w.3 in
    let long = rules_length words (get_or words 0 0) (get_or words 1 0) 2 in
    let same : width ≡ get_or words 0 0 = sym wide in
    record {
      few = omega arith;
      whole = λ i l. rw same (wholes words (get_or words 0 0) (get_or words 1 0) 2 e i w.2 n.3 (omega arith));
      rule_is = λ i l. rw same (rules_nth words (get_or words 0 0) (get_or words 1 0) 2 i (omega arith));
    }
kept_by words (Err f) h width count wide many = record {
  few = omega arith;
  whole = λ i l. absurd (omega arith);
  rule_is = λ i l. absurd (omega arith);
}

module _ (words : List ℕ) (width count : ℕ) (starts : List ℕ) (o : Opened words width count starts) where
  kept : Kept words (sheet_end words) width count
  unfolding sheet_meaning
  kept = kept_by words (sheet_end words) refl width count o.wide o.counted

  pub few : count ≤ 256
  few = kept.few

  pub whole : (i : ℕ) → i < count → Whole words width (get_or starts i 0)
  whole i l = rw (o.started i l) (kept.whole i l)

  pub found : (i : ℕ) → i < count → slice_get (sheet_meaning words).rules i ≡ Some (rule_at words width (get_or starts i 0))
  unfolding sheet_meaning
  found i l = rw (o.started i l) (kept.rule_is i l)

-- what an opening knows, of a sheet that passes or of one that fails
pub opened_by : (words starts : List ℕ) (r : Out Opening) (t : Opening) → MatchResult r (λ o. Tabled words o.width o.count o.starts) (λ f. sheet_end words ≡ Err f)
    → t ≡ result_unwrap_or r (record { width = 1; count = 0; starts = starts }) → Opened words t.width t.count t.starts
unfolding sheet_meaning
opened_by words starts (Ok o) t h e =
    subst (λ (o : Opening). Opened words o.width o.count o.starts) (sym e) (record {
      wide = rw h.passing (sym h.width_is);
      counted = rw h.passing (rules_length words (get_or words 0 0) (get_or words 1 0) 2 ∙ sym h.count_is);
      started = h.starts_are;
    })
opened_by words starts (Err f) t h e =
    subst (λ (o : Opening). Opened words o.width o.count o.starts) (sym e) (record { wide = rw h; counted = rw h; started = λ i l. absurd (omega arith) })
