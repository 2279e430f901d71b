-- What the proofs ask of rules and of starting rows, and that every well-formed target gives it.
use Rattle.std.proofs.Common.{◌≡◌, ℕ, ◌+◌, ◌<◌, List, map, length, sym, ap, ◌∙◌, subst, inl, inr, arith}
use mathlib.Core.List.Memᴰ
use lib.ListN.{length-map}
use Rattle.std.proofs.lemmas.Bool.{cond_both}
use Rattle.rules.specs.declared.term.Term.{Term}
use Rattle.rules.specs.declared.term.Term.TheVariants.{Constant, Variable}
use Rattle.rules.specs.declared.term.Kind.{Kind}
use Rattle.rules.specs.declared.term.Kind.TheVariants.{Functional, Equality}
use Rattle.rules.specs.Rules.{◌∈◌, Pattern, Rule}
use Rattle.rules.specs.Books.{BookMeaning, base, Small, Stands, Known, WellFormed, WellFormedBook}
use Rattle.rules.specs.Doubled.{holds, copied, doubled_rows_as, doubled_rows, doubled_pairs_as, doubled_pairs}
use Rattle.law.specs.Groups.{Entry}
use Rattle.law.specs.Stored.{Held}

-- the rules are well formed, and the starting rows are rows of entries, of the rules' width, with symbols below 64
pub record Fit (b : BookMeaning) (start : Pattern) : Type 0 where
  pub held : Held b.width b.rules start
  pub of_width : (row : List Term) → row ∈ start → length row ≡ b.width
  pub near : (v : ℕ) → Stands v start → v < 64

-- a constant is small; of a variable nothing is asked
abbrev pub Low : Term → Type 0
Low (Constant c) = c < base
Low (Variable v) = Unit {0}

pub small_low : (e : Term) → Small e → Low e
small_low (Constant c) l = l
small_low (Variable v) l = tt

pub known-low : (p : Pattern) (e : Term) → Known p e → Low e
known-low p (Constant c) l = l
known-low p (Variable v) l = tt

-- each row of the starting rows has the width of the target's rows
width_as : (k : Kind) (w : ℕ) (t : Rule) → ((row : List Term) → row ∈ t.pattern → length row ≡ w) →
    (row : List Term) → row ∈ doubled_rows_as k t → length row ≡ w
width_as Equality w t wide row n = wide row n
width_as Functional w t wide row n = elim (Memᴰ.append_cases t.pattern n) [ inl k ↦ wide row k | inr k ↦ again k ]
  where
    again : row ∈ map (map (copied t.left)) t.pattern → length row ≡ w
    again k =
        let q = Memᴰ.of_map (map (copied t.left)) t.pattern k in
        sym (ap length q.2) ∙ length-map q.0 (copied t.left) ∙ wide q.0 q.1

-- what holds of each small term, and of each such term copied, holds of each term of the starting rows
each-as : (P : Term → Type 0) (k : Kind) (t : Rule) → ((e : Term) → Small e → P e) → ((e : Term) → Small e → P (copied t.left e)) →
    ((row : List Term) → row ∈ t.pattern → (e : Term) → e ∈ row → Small e) →
    (row : List Term) → row ∈ doubled_rows_as k t → (e : Term) → e ∈ row → P e
each-as P Equality t once twice small row n e m = once e (small row n e m)
each-as P Functional t once twice small row n e m =
    elim (Memᴰ.append_cases t.pattern n) [ inl k ↦ once e (small row k e m) | inr k ↦ again k ]
  where
    again : row ∈ map (map (copied t.left)) t.pattern → P e
    again k =
        let q = Memᴰ.of_map (map (copied t.left)) t.pattern k in
        let u = Memᴰ.of_map (copied t.left) q.0 (subst (λ (row : List Term). e ∈ row) (sym q.2) m) in
        subst P u.2 (twice u.0 (small q.0 q.1 u.0 u.1))

-- a term of the starting rows: a small constant, or a symbol below 64
abbrev Near : Term → Type 0
Near (Constant c) = c < base
Near (Variable v) = v < 64

small_near : (e : Term) → Small e → Near e
small_near (Constant c) l = l
small_near (Variable v) l = omega arith

copied-near : (left : List ℕ) (e : Term) → Small e → Near (copied left e)
copied-near left (Constant c) l = l
copied-near left (Variable v) l = cond_both (holds left v) v (32 + v) (λ k. k < 64) (λ e. omega arith) (λ e. omega arith)

module _ (w : ℕ) (t : Rule) (fits : WellFormed w t) where
  near_all : (row : List Term) → row ∈ doubled_rows t → (e : Term) → e ∈ row → Near e
  near_all = each-as Near t.kind t small_near (copied-near t.left) fits.small

  entries : (row : List Term) → row ∈ doubled_rows t → (e : Term) → e ∈ row → Entry (doubled_rows t) e
  entries row n (Constant c) m = near_all row n (Constant c) m
  entries row n (Variable v) m = (row, n, m)

  pub near : (v : ℕ) → Stands v (doubled_rows t) → v < 64
  near v k = near_all k.0 k.1 (Variable v) k.2

-- a term of a pair stands in the first copy, and copied it stands in the second
first-known : (k : Kind) (t : Rule) (e : Term) → Known t.pattern e → Entry (doubled_rows_as k t) e
first-known k t (Constant c) l = l
first-known Equality t (Variable v) s = s
first-known Functional t (Variable v) s = (s.0, Memᴰ.append_left (map (map (copied t.left)) t.pattern) s.1, s.2)

second_known : (t : Rule) (e : Term) → Known t.pattern e → Entry (doubled_rows_as Functional t) (copied t.left e)
second_known t (Constant c) l = l
second_known t (Variable v) s =
    (map (copied t.left) s.0, Memᴰ.append_right t.pattern (Memᴰ.map (map (copied t.left)) s.1), Memᴰ.map (copied t.left) s.2)

pair_entries_as : (k : Kind) (t : Rule) → ((p : Term × Term) → p ∈ t.pairs → Known t.pattern p.0 × Known t.pattern p.1) →
    (p : Term × Term) → p ∈ doubled_pairs_as k t → Entry (doubled_rows_as k t) p.0 × Entry (doubled_rows_as k t) p.1
pair_entries_as Equality t known p m = let q = known p m in (first-known Equality t p.0 q.0, first-known Equality t p.1 q.1)
pair_entries_as Functional t known p m =
    let q = Memᴰ.of_map (λ (p : Term × Term). (p.0, copied t.left p.1)) t.pairs m in
    let e = known q.0 q.1 in
    subst (λ (p : Term × Term). Entry (doubled_rows_as Functional t) p.0 × Entry (doubled_rows_as Functional t) p.1) q.2
    (first-known Functional t q.0.0 e.0, second_known t q.0.1 e.1)

-- both terms of each pair of the doubled form are entries
pub pair_entries : (w : ℕ) (t : Rule) → WellFormed w t → (p : Term × Term) → p ∈ doubled_pairs t →
    Entry (doubled_rows t) p.0 × Entry (doubled_rows t) p.1
pair_entries w t fits = pair_entries_as t.kind t fits.pairs_known

-- a well-formed target's starting rows fit
pub starts_fit : (b : BookMeaning) → WellFormedBook b → (t : Rule) → WellFormed b.width t → Fit b (doubled_rows t)
starts_fit b fits t target_fits =
    record {
      held = record { rules_fit = fits.rules_fit; entries = entries b.width t target_fits };
      of_width = width_as t.kind b.width t target_fits.of_width;
      near = near b.width t target_fits;
    }
