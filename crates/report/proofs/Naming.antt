-- Every constant in the rows of an outcome has a name, and so every report is short enough for one output.
use Rattle.std.proofs.Common.{◌≡◌, ℕ, zero, suc, ◌+◌, ◌-◌, ◌^◌, ◌<◌, ◌≤◌, List, [], ◌∷◌, ◌++◌, map, length, replicate, refl, inl, inr, arith}
use mathlib.Core.List.Memᴰ
use Rattle.std.specs.List.{AllByRecursion}
use Rattle.rules.specs.declared.term.Term.{Term}
use Rattle.rules.specs.declared.term.Term.TheVariants.{Constant, Variable}
use Rattle.rules.specs.Rules.{◌∈◌, Rule}
use Rattle.rules.specs.Books.{BookMeaning, WellFormedBook}
use Rattle.text.specs.declared.words.Name.{Name}
use Rattle.text.specs.Words.{name_of, Word}
use Rattle.reader.specs.Reads.{no_name, padded}
use Rattle.spelling.proofs.Facts.{all_mem}
use Rattle.spelling.proofs.Named.{PairBelow, RuleBelow, Short}
use Rattle.spelling.proofs.Named as spelled
use Rattle.writing.specs.Outcomes.{Outcome, Follows, Fails}
use Rattle.writing.specs.Enough.{SmallRow, Small, Modest}
use Rattle.outcomes.specs.Due.{DueAt}
use Rattle.outcomes.specs.Laws.{Below, ConstantsBelow, Named}
use Rattle.outcomes.proofs.All.{outcomes_due}
use Rattle.report.specs.Reported.{EachDue}
use Rattle.report.specs.Answered.{RowsNamed, OutcomesOf}
use Rattle.report.proofs.Tried.{nth_member, target_fits}

from_mem : {X : Type 0} (P : X → Type 0) (xs : List X) → ((x : X) → x ∈ xs → P x) → AllByRecursion P xs
from_mem P [] h = tt
from_mem P (x ∷ xs) h = (h x (Memᴰ.head refl), from_mem P xs (λ y q. h y (Memᴰ.tail q)))

below_too : (N : ℕ) (t : Term) → spelled.Below N t → Below N t
below_too N (Constant c) h = h
below_too N (Variable v) h = tt

module _ (b : BookMeaning) (book_fits : WellFormedBook b) (ts : BookMeaning) (targets_fit : WellFormedBook ts) (w : ts.width ≡ b.width) (N : ℕ)
    (book_below : AllByRecursion (RuleBelow N) b.rules) (targets_below : AllByRecursion (RuleBelow N) ts.rules) where
  constants : (t : Rule) → t ∈ ts.rules → ConstantsBelow N b t
  constants t q = record {
    pairs = λ r qr p qp.
        let h = all_mem (PairBelow N) r.pairs (all_mem (RuleBelow N) b.rules book_below r qr).1 p qp in
        (below_too N p.0 h.0, below_too N p.1 h.1);
    rows = λ row qr e qe. below_too N e (all_mem (spelled.Below N) row (all_mem (AllByRecursion (spelled.Below N)) t.pattern (all_mem (RuleBelow N) ts.rules targets_below t q).0 row qr) e qe);
  }

  at_named : (i : ℕ) (o : Outcome) → DueAt b ts i o → RowsNamed N o
  at_named i Follows d = tt
  at_named i (Fails rows) d =
      from_mem (AllByRecursion (Named N)) rows (λ row qr. from_mem (Named N) row (λ e qe.
      outcomes_due.named b book_fits d.target (target_fits b book_fits ts targets_fit w i d.target d.listed) N
      (constants d.target (nth_member ts.rules i d.target d.listed)) rows d.is_due row qr e qe))

  pub all_named : (i : ℕ) (os : List Outcome) → EachDue b ts i os → AllByRecursion (RowsNamed N) os
  all_named i [] d = tt
  all_named i (o ∷ os) d = (at_named i o d.0, all_named (i + 1) os d.1)

  -- rows are few and narrow, and their entries are words
  word_of : N ≤ 4096 → (e : ℕ) → Named N e → e < 2 ^ 32
  word_of few e (inl h) = omega arith
  word_of few e (inr h) = omega (arith, h.1)

  small_at : N ≤ 4096 → (i : ℕ) (o : Outcome) → DueAt b ts i o → RowsNamed N o → Small o
  small_at few i Follows d h = record { few = omega arith; each = tt }
  small_at few i (Fails rows) d h =
      let f = outcomes_due.few_rows b book_fits d.target (target_fits b book_fits ts targets_fit w i d.target d.listed) rows d.is_due in
      let small = book_fits.small_width in
      record {
        few = f.few;
        each = from_mem SmallRow rows (λ row q. record {
          wide = omega (arith, f.wide row q);
          words = from_mem (λ e. e < 2 ^ 32) row (λ e qe. word_of few e (all_mem (Named N) row (all_mem (AllByRecursion (Named N)) rows h row q) e qe));
        });
      }

  all_small : N ≤ 4096 → (i : ℕ) (os : List Outcome) → EachDue b ts i os → AllByRecursion (RowsNamed N) os → AllByRecursion Small os
  all_small few i [] d h = tt
  all_small few i (o ∷ os) d h = (small_at few i o d.0 h.0, all_small few (i + 1) os d.1 h.1)

  -- names of at most 24 bytes, and places that are not used
  short_names : (ws : List Word) → AllByRecursion Short ws → AllByRecursion (λ n. n.length ≤ 24) (map name_of ws)
  short_names [] h = tt
  short_names (x ∷ ws) h = (h.0, short_names ws h.1)

  short_blank : (k : ℕ) → AllByRecursion (λ n. n.length ≤ 24) (replicate k no_name)
  short_blank zero = tt
  short_blank (suc k) = (omega arith, short_blank k)

  all_append : (xs ys : List Name) → AllByRecursion (λ n. n.length ≤ 24) xs → AllByRecursion (λ n. n.length ≤ 24) ys → AllByRecursion (λ n. n.length ≤ 24) (xs ++ ys)
  all_append [] ys a c = c
  all_append (x ∷ xs) ys a c = (a.0, all_append xs ys a.1 c)

  pub modest : (size : ℕ) (ws : List Word) (os : List Outcome) → N ≤ 4096 → AllByRecursion Short ws → length ts.rules ≤ 256 → OutcomesOf b ts os → Modest (padded size no_name (map name_of ws)) os
  modest size ws os few short many due = record {
    few = omega (arith, due.long);
    each = all_small few 0 os due.each (all_named 0 os due.each);
    short = all_append (map name_of ws) (replicate (size - length (map name_of ws)) no_name) (short_names ws short) (short_blank (size - length (map name_of ws)));
  }
