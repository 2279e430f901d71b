-- What the words of a sheet say, by the places where they stand, and so what a sheet means.
use Rattle.std.specs.Prelude.{ℕ, zero, suc, ◌+◌, ◌-◌, ◌*◌, cond, List, [], ◌∷◌, Ok, Err, ◌==◌, nat_lt, slice_index}
use Rattle.rules.specs.Rules.{Rule}
use Rattle.rules.specs.Books.{base, BookMeaning}
use Rattle.sheets.specs.Walk.{Out, pair_size, sheet_end}
use Rattle.rules.specs.declared.term.Term.{Term}
use Rattle.rules.specs.declared.term.Term.TheVariants.{Constant, Variable}
use Rattle.rules.specs.declared.term.Kind.{Kind}
use Rattle.rules.specs.declared.term.Kind.TheVariants.{Functional, Equality}

-- what stands in n slots of one size, from a place on
abbrev pub slots : {X : Type 0} → (ℕ → X) → ℕ → ℕ → ℕ → List X
slots f size zero at = []
slots f size (suc n) at = f at ∷ slots f size n (at + size)

-- what a word says as a term, and as a kind
abbrev pub term_of : ℕ → Term
term_of w = cond (nat_lt w base) (Constant w) (Variable (w - base))

abbrev pub kind_of : ℕ → Kind
kind_of w = cond (w == 1) Functional Equality

-- what stands at a place: a term, a left variable, a pair of a rule of this kind
abbrev pub term_in : List ℕ → ℕ → Term
term_in words p = term_of (slice_index words p)

abbrev pub left_in : List ℕ → ℕ → ℕ
left_in words p = slice_index words p - base

abbrev pub pair_in : Kind → List ℕ → ℕ → Term × Term
pair_in Functional words p = (term_in words p, term_in words p)
pair_in Equality words p = (term_in words p, term_in words (p + 1))

-- of the rule that begins at a place: where its left count and its pair count stand, and the place after it
unfoldable pub left_place : List ℕ → ℕ → ℕ → ℕ
left_place words width at = at + 2 + slice_index words (at + 1) * width

unfoldable pub pair_place : List ℕ → ℕ → ℕ → ℕ
pair_place words width at = left_place words width at + 1 + slice_index words (left_place words width at)

unfoldable pub end_of : List ℕ → ℕ → ℕ → ℕ
end_of words width at = pair_place words width at + 1 + slice_index words (pair_place words width at) * pair_size (slice_index words at)

-- the rule that begins at a place
abbrev pub rule_at : List ℕ → ℕ → ℕ → Rule
rule_at words width at = record {
  kind = kind_of (slice_index words at);
  pattern = slots (slots (term_in words) 1 width) width (slice_index words (at + 1)) (at + 2);
  left = slots (left_in words) 1 (slice_index words (left_place words width at)) (left_place words width at + 1);
  pairs = slots (pair_in (kind_of (slice_index words at)) words) (pair_size (slice_index words at)) (slice_index words (pair_place words width at)) (pair_place words width at + 1);
}

-- n rules, the first at a place
abbrev pub rules_at : List ℕ → ℕ → ℕ → ℕ → List Rule
rules_at words width zero at = []
rules_at words width (suc n) at = rule_at words width at ∷ rules_at words width n (end_of words width at)

-- what a sheet means that fails the check
abbrev pub empty_book : BookMeaning
empty_book = record { width = 1; rules = [] }

-- what a sheet means
abbrev pub meaning_by : List ℕ → Out ℕ → BookMeaning
meaning_by words (Ok e) = record { width = slice_index words 0; rules = rules_at words (slice_index words 0) (slice_index words 1) 2 }
meaning_by words (Err e) = empty_book

unfoldable pub sheet_meaning : List ℕ → BookMeaning
sheet_meaning words = meaning_by words (sheet_end words)
