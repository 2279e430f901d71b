-- The laws of whole sheets.
use Rattle.std.proofs.Common.{◌≡◌, ℕ, zero, suc, ◌+◌, ◌≤◌, List, [], ◌∷◌, ◌++◌, length, get_or, drop, Ok, Err, sym, refl, ap, ◌∙◌, subst, append_assoc, arith}
use mathlib.Core.List.Memᴰ
use Rattle.std.specs.List.{flat_map}
use Rattle.std.proofs.lemmas.List.{length-append, length-drop}
use Rattle.rules.specs.Rules.{Rule, ◌∈◌}
use Rattle.rules.specs.Books.{BookMeaning, WellFormed}
use Rattle.sheets.specs.Walk.{Out, word_in, rule_end, rules_end, sheet_end}
use Rattle.sheets.specs.Layout.{layout_rule, layout}
use Rattle.sheets.specs.Reads.{end_of, rule_at, rules_at, empty_book, meaning_by, sheet_meaning}
use Rattle.sheets.specs.Facts.{Whole}
use Rattle.sheets.specs.Wholes.{then_ok, word_ok, whole_from, clash}
use Rattle.sheets.specs.Lays.{rule_lay, head_at}
use Rattle.sheets.specs.Wells.{sheet_well, rules_length}
use Rattle.sheets.specs.Laws.{Fitting, Written, Passing, ReadBack, Opens, WrittenPasses, PassingIsWritten, FailingIsFirst}
use Rattle.sheets.proofs.Firsts.{place_inside, place-front, place-always}
use Rattle.sheets.proofs.Written.{then-pass, word_pass, rule-pass, at_head, spread, whole-written, read-written}
use Rattle.rules.specs.declared.fault.BookFault.{BookFault}

-- rules that are written down
rules_written : (words : List ℕ) (width : ℕ) → width ≤ 8 → (rs : List Rule) (at : ℕ) (rest : List ℕ) → drop at words ≡ flat_map layout_rule rs ++ rest → ((r : Rule) → r ∈ rs → WellFormed width r)
    → (rules_end words width (length rs) at ≡ Ok (at + length (flat_map layout_rule rs))) × (rules_at words width (length rs) at ≡ rs)
rules_written words width narrow [] at rest e well = (ap Ok (omega arith), refl)
rules_written words width narrow (r ∷ rs) at rest e well =
    let tail = flat_map layout_rule rs ++ rest in
    let fit = well r (Memᴰ.head refl) in
    let s = spread words width at r tail fit (e ∙ append_assoc (layout_rule r) (flat_map layout_rule rs) rest) in
    let w = whole-written words width at r tail narrow fit s in
    let h = rules_written words width narrow rs (end_of words width at) rest s.after (λ x m. well x (Memᴰ.tail m)) in
    let n : end_of words width at + length (flat_map layout_rule rs) ≡ at + length (flat_map layout_rule (r ∷ rs)) = omega (arith, s.end_at, length-append (layout_rule r) (flat_map layout_rule rs)) in
    let same = read-written words width at r tail narrow fit s in
    (then-pass (rule_end words width at) _ (end_of words width at) _ (rule-pass words width at w) (h.0 ∙ ap Ok n), λ i. same i ∷ h.1 i)

-- rules that pass
record Laid (words : List ℕ) (at e : ℕ) (rs : List Rule) : Type 0 where
  lay : drop at words ≡ flat_map layout_rule rs ++ drop e words
  size : e ≡ at + length (flat_map layout_rule rs)
  inside : e ≤ length words

rule-size : (words : List ℕ) (width at : ℕ) → Whole words width at → end_of words width at ≡ at + length (layout_rule (rule_at words width at))
rule-size words width at w =
    let l = ap length (rule_lay words width at w) in
    let a = length-append (layout_rule (rule_at words width at)) (drop (end_of words width at) words) in
    let b = length-drop at words in
    let c = length-drop (end_of words width at) words in
    let i = w.inside in
    let o : at ≤ end_of words width at = omega (arith, w.left_is, w.pair_is, w.end_is) in
    omega arith

rules_lay : (words : List ℕ) (width : ℕ) → width ≤ 8 → (n at e : ℕ) → at ≤ length words → rules_end words width n at ≡ Ok e → Laid words at e (rules_at words width n at)
rules_lay words width narrow zero at e l h =
    let s : at ≡ e = cc in
    record { lay = ap (λ p. drop p words) s; size = omega arith; inside = omega arith }
rules_lay words width narrow (suc n) at e l h =
    let t = then_ok (rule_end words width at) (λ next. rules_end words width n next) e h in
    let w = whole_from words width at t.0 narrow t.1 in
    let end = end_of words width at in
    let r = rules_lay words width narrow n end e w.1.inside (subst (λ (x : ℕ). rules_end words width n x ≡ Ok e) w.0 t.2) in
    record {
      lay = rule_lay words width at w.1 ∙ (ap (λ xs. layout_rule (rule_at words width at) ++ xs) r.lay ∙ sym (append_assoc (layout_rule (rule_at words width at)) (flat_map layout_rule (rules_at words width n end)) (drop e words)));
      size = omega (arith, r.size, rule-size words width at w.1, length-append (layout_rule (rule_at words width at)) (flat_map layout_rule (rules_at words width n end)));
      inside = r.inside;
    }

pub written-passes : WrittenPasses
unfolding layout sheet_meaning
written-passes b rest fit =
    let words = layout b ++ rest in
    let body = flat_map layout_rule b.rules ++ rest in
    let h0 = at_head words 0 b.width (length b.rules ∷ body) refl in
    let h1 = at_head words 1 (length b.rules) body h0.2 in
    let r = rules_written words b.width fit.well.small_width b.rules 2 rest h1.2 fit.well.rules_fit in
    let n : 2 + length (flat_map layout_rule b.rules) ≡ length (layout b) = omega arith in
    let e : sheet_end words ≡ Ok (length (layout b)) =
    then-pass (word_in 1 8 words 0) _ b.width _ (word_pass 1 8 words 0 h0.0 fit.well.some_width fit.well.small_width)
    (then-pass (word_in 0 256 words 1) _ (length b.rules) _ (word_pass 0 256 words 1 h1.0 (omega arith) fit.few) (r.0 ∙ ap Ok n)) in
    let m : meaning_by words (Ok (length (layout b))) ≡ b = λ i. record { width = b.width; rules = r.1 i } in
    (e, ap (meaning_by words) e ∙ m)

passing_parts : (words : List ℕ) (e : ℕ) → sheet_end words ≡ Ok e → (words ≡ layout (sheet_meaning words) ++ drop e words) × (e ≡ length (layout (sheet_meaning words))) × Fitting (sheet_meaning words)
unfolding layout sheet_meaning
passing_parts words e h =
    let w = word_ok 1 8 words 0 _ e h in
    let n = word_ok 0 256 words 1 _ e w.3 in
    let width = get_or words 0 0 in
    let count = get_or words 1 0 in
    let long = rules_length words width count 2 in
    let m : sheet_meaning words ≡ record { width = width; rules = rules_at words width count 2 } = ap (meaning_by words) h in
    let r = rules_lay words width w.2 count 2 e (omega arith) n.3 in
    let a = head_at words 0 1 w.0 refl in
    let b = head_at words 1 2 n.0 refl in
    let all : words ≡ (width ∷ (length (rules_at words width count 2) ∷ flat_map layout_rule (rules_at words width count 2))) ++ drop e words = a ∙ ap (λ xs. width ∷ xs) (b ∙ (λ i. sym long i ∷ r.lay i)) in (
      subst (λ (x : BookMeaning). words ≡ layout x ++ drop e words) (sym m) all,
      subst (λ (x : BookMeaning). e ≡ length (layout x)) (sym m) (omega (arith, r.size)),
      record { well = sheet_well words; few = subst (λ (x : BookMeaning). length x.rules ≤ 256) (sym m) (omega arith) },
    )

pub passing_is_written : PassingIsWritten
passing_is_written words e h =
    let r = passing_parts words e h in (
      r.1,
      record {
        walked = h ∙ ap Ok r.1;
        fitting = r.2;
        begins = r.0 ∙ ap (λ n. layout (sheet_meaning words) ++ drop n words) r.1;
      },
    )

pub written_from : (words : List ℕ) → Passing words → Written words
written_from words p = record { book = sheet_meaning words; rest = _; fitting = p.fitting; begins = p.begins }

failing_is_empty : (words : List ℕ) (f : BookFault) → sheet_end words ≡ Err f → sheet_meaning words ≡ empty_book
unfolding sheet_meaning
failing_is_empty words f e = ap (meaning_by words) e

not_written : (words : List ℕ) (f : BookFault) → sheet_end words ≡ Err f → Written words → ⊥
not_written words f h w =
    let p = (written-passes w.book w.rest w.fitting).0 in
    clash f (length (layout w.book)) (sym h ∙ (ap sheet_end w.begins ∙ p))

pub failing_is_first : FailingIsFirst
failing_is_first words f h = record {
  walked = h;
  unwritten = not_written words f h;
  empty = failing_is_empty words f h;
  inside = place_inside words f h;
  front = place-front words f h;
  always = λ l other same. (let e = place-always words f h l other same in (e, not_written other f e));
}

-- what the two calls answer
pub read_back : (words : List ℕ) (e : ℕ) → sheet_end words ≡ Ok e → ReadBack words (Ok tt)
read_back words e h b rest fit same = (refl, ap sheet_meaning same ∙ (written-passes b rest fit).1)

pub never_back : (words : List ℕ) (f : BookFault) → sheet_end words ≡ Err f → (r : Out (Unit {0})) → ReadBack words r
never_back words f h r b rest fit same = absurd (not_written words f h (record { book = b; rest = rest; fitting = fit; begins = same }))

opens_by : (words : List ℕ) (o : Out ℕ) → sheet_end words ≡ o → Opens words (sheet_meaning words)
opens_by words (Ok e) h =
    let p = (passing_is_written words e h).1 in
    record {
      fitting = p.fitting;
      as_written = λ b rest fit same. ap sheet_meaning same ∙ (written-passes b rest fit).1;
      begins = λ w. p.begins;
      as_empty = λ none. absurd (none (written_from words p));
    }
opens_by words (Err f) h =
    let empty = failing_is_empty words f h in
    record {
      fitting = record { well = sheet_well words; few = omega (arith, ap (λ m. length m.rules) empty) };
      as_written = λ b rest fit same. ap sheet_meaning same ∙ (written-passes b rest fit).1;
      begins = λ w. absurd (not_written words f h w);
      as_empty = λ none. empty;
    }

pub opens : (words : List ℕ) → Opens words (sheet_meaning words)
opens words = opens_by words (sheet_end words) refl
