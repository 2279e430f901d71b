-- A loaded rule may be searched for.
use Rattle.std.proofs.Common.{ap, ◌∙◌, ◌≡◌, ℕ, ◌<◌, ◌≤◌, length, sym, refl, subst, inl, inr}
use Rattle.std.proofs.lemmas.List.FromFn.{length-map-range_with_len}
use Rattle.rules.specs.declared.term.Term.{Term}
use Rattle.rules.specs.declared.term.Term.TheVariants.{Constant, Variable}
use Rattle.rules.specs.declared.term.Kind.TheVariants.{Functional}
use Rattle.rules.specs.declared.loaded.LoadedRule.{LoadedRule}
use Rattle.rules.specs.Rules.{◌∈◌}
use Rattle.rules.specs.Books.{Known, PairOf, Stands}
use Rattle.rules.specs.Loaded.{loaded_term, left_var, loaded_pair, meant_row, meant, Form, Symbolic, OfBook}
use Rattle.rules.proofs.Copies.{counted-member, member_counted, sized}
use Rattle.rules.proofs.Forms.{form_of}
use Rattle.search.specs.Placings.{Early, KnownTerm, Sound, Groupable}

module _ (l : LoadedRule) (small : (i : ℕ) → i < l.row_count → (j : ℕ) → j < l.width → Symbolic (loaded_term l i j)) where
  known-variable : (v : ℕ) → Stands v (meant l).pattern → KnownTerm l (Variable v)
  unfolding Early
  known-variable v (row, m, n) =
      let (i, hi, is) = member_counted (meant_row l) l.row_count row m in
      let (j, hj, e) = member_counted (loaded_term l i) l.width (Variable v) (subst (λ x. Variable v ∈ x) (sym is) n) in
      record { fits = subst Symbolic e (small i hi j hj); stands = inr (i, j, hi, hj, e) }

  known-term : (t : Term) → Known (meant l).pattern t → KnownTerm l t
  unfolding Early
  known-term (Constant c) known = record { fits = known; stands = inl (c, refl) }
  known-term (Variable v) known = known-variable v known

pub sound_of : (w : ℕ) (l : LoadedRule) → l.width ≡ w → Form w (meant l) → Sound l
sound_of w l width form = record {
  some = subst (λ n. 1 ≤ n) rows form.some_row;
  rows = subst (λ n. n ≤ 8) rows form.few_rows;
  width = subst (λ n. n ≤ 8) (sym width) form.small_width;
  pairs = subst (λ n. n ≤ 32) (length-map-range_with_len (loaded_pair l) 0 l.pair_count) form.few_pairs;
  terms = terms;
  ones = λ k h. known-term l terms (loaded_pair l k).0 (form.pairs_known (loaded_pair l k) (counted-member (loaded_pair l) l.pair_count k h)).0;
  others = λ k h. known-term l terms (loaded_pair l k).1 (form.pairs_known (loaded_pair l k) (counted-member (loaded_pair l) l.pair_count k h)).1;
}
  where
    rows : length (meant l).pattern ≡ l.row_count
    rows = length-map-range_with_len (meant_row l) 0 l.row_count

    terms : (i : ℕ) → i < l.row_count → (j : ℕ) → j < l.width → Symbolic (loaded_term l i j)
    terms i hi j hj = form.small (meant_row l i) (counted-member (meant_row l) l.row_count i hi) (loaded_term l i j) (counted-member (loaded_term l i) l.width j hj)

pub sound_rule : (l : LoadedRule) → OfBook l → Sound l
sound_rule l of = sound_of l.width l refl (form_of l.width (meant l) of.width of.fits)

-- the pairs of a functional rule are its right variables, each twice
pub pair_twice : (l : LoadedRule) → l.kind ≡ Functional → OfBook l → (k : ℕ) → k < l.pair_count → (loaded_pair l k).0 ≡ (loaded_pair l k).1
pair_twice l functional of k h =
    let (v, e) = subst (λ x. PairOf x (loaded_pair l k)) functional (of.fits.pairs_fit (loaded_pair l k) (counted-member (loaded_pair l) l.pair_count k h)) in
    ap (λ (x : Term × Term). x.0) e ∙ sym (ap (λ (x : Term × Term). x.1) e)

pub groupable_rule : (l : LoadedRule) → l.kind ≡ Functional → OfBook l → Groupable l
groupable_rule l functional of =
    let sound = sound_rule l of in
    let small = sized l of in
    record {
      sound = sound;
      few = small.rows;
      left = small.lefts;
      lefts = λ k h. known-variable l sound.terms (left_var l k) (of.fits.left_stands (left_var l k) (counted-member (left_var l) l.left_count k h));
      twice = pair_twice l functional of;
    }
