-- What two books say as one.
use Rattle.std.specs.Prelude.{◌≡◌, ℕ, ◌+◌, ◌<◌, ◌≤◌, Bool, true, false, cond, ◌&&◌, ◌≢◌, List, ◌++◌, length, None, Some, Option, Ok, Err, Result, ◌==◌, nat_le, refl}
use Rattle.std.proofs.Common.{sym, subst, inl, inr, arith, length-append, eqb-true, leb-true}
use mathlib.Core.List.Memᴰ
use Rattle.std.specs.List.{slice_get}
use Rattle.rules.specs.Rules.{◌∈◌, Rule}
use Rattle.rules.specs.Books.{BookMeaning, WellFormed, WellFormedBook}
use Rattle.rules.specs.declared.refusal.Refusal.{Refusal}
use Rattle.rules.specs.declared.refusal.Layer.TheVariants.{Join}
use Rattle.joins.specs.declared.fault.JoinFault.{JoinFault}
use Rattle.joins.specs.declared.fault.JoinFault.TheVariants.{WidthsDiffer, TooManyRules}
use Rattle.joins.specs.declared.place.Place.{Place}
use Rattle.joins.specs.declared.place.Place.TheVariants.{First, Second}

-- two books can be joined: they have one width, and at most 1,024 rules together
abbrev pub fits : BookMeaning → BookMeaning → Bool
fits m n = m.width == n.width && nat_le (length m.rules + length n.rules) 1024

-- the first book's rules and then the second's; a pair that cannot be joined is the first book alone
abbrev pub join_rules : Bool → BookMeaning → BookMeaning → List Rule
join_rules joinable m n = cond joinable (m.rules ++ n.rules) m.rules

abbrev pub join_meaning : BookMeaning → BookMeaning → BookMeaning
join_meaning m n = record { width = m.width; rules = join_rules (fits m n) m n }

-- each refusal of a join as every layer tells it
abbrev pub join_refusal : JoinFault → Refusal
join_refusal WidthsDiffer = record { number = 9; layer = Join; place = 0 }
join_refusal TooManyRules = record { number = 12; layer = Join; place = 0 }

-- why a join is refused, the first that applies
abbrev pub Refused : BookMeaning → BookMeaning → JoinFault → Type 0
Refused m n WidthsDiffer = m.width ≢ n.width
Refused m n TooManyRules = (m.width ≡ n.width) × (1024 < length m.rules + length n.rules)

-- What the question whether two books can be joined answers, and what the joined book then means.
abbrev pub Answers : BookMeaning → BookMeaning → Result (Unit {0}) JoinFault → Type 0
Answers m n (Ok _) =
    (m.width ≡ n.width) × (length m.rules + length n.rules ≤ 1024) × (join_meaning m n ≡ record { width = m.width; rules = m.rules ++ n.rules })
Answers m n (Err e) = Refused m n e × (join_meaning m n ≡ m)

-- where the rule at a place of a joined book stands, or that there is none
abbrev pub Stands : Option Place → List Rule → List Rule → List Rule → ℕ → Type 0
Stands (Some (First k)) all one two i = slice_get all i ≡ slice_get one k
Stands (Some (Second k)) all one two i = slice_get all i ≡ slice_get two k
Stands None all one two i = slice_get all i ≡ None

-- below: a joined book is well formed, as the trait asks of each implementation

both : (a b : Bool) → (a && b) ≡ true → (a ≡ true) × (b ≡ true)
both true b e = (refl, e)
both false b e = absurd (let z : ◌≡◌ {A = ℕ} 0 1 = cc in omega arith)

few_at : (b : Bool) (m n : BookMeaning) → WellFormedBook m → (b ≡ true → length m.rules + length n.rules ≤ 1024) → length (join_rules b m n) ≤ 1024
few_at true m n u h = omega (arith, length-append m.rules n.rules, h refl)
few_at false m n u h = u.few

join_rules-well : (b : Bool) (m n : BookMeaning) → WellFormedBook m → WellFormedBook n → (b ≡ true → m.width ≡ n.width) → (r : Rule) → r ∈ join_rules b m n → WellFormed m.width r
join_rules-well true m n u v h r k = elim (Memᴰ.append_cases m.rules k) [ inl l ↦ u.rules_fit r l | inr l ↦ subst (λ w. WellFormed w r) (sym (h refl)) (v.rules_fit r l) ]
join_rules-well false m n u v h r k = u.rules_fit r k

pub join_well : (m n : BookMeaning) → WellFormedBook m → WellFormedBook n → WellFormedBook (join_meaning m n)
join_well m n u v = record {
  some_width = u.some_width;
  small_width = u.small_width;
  few = few_at (fits m n) m n u (λ e. leb-true _ _ (both _ _ e).1);
  rules_fit = join_rules-well (fits m n) m n u v (λ e. eqb-true _ _ (both _ _ e).0);
}
