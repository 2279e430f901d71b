-- Pairs that show alike.
use Rattle.std.proofs.Common.{ℕ, ◌<◌, ◌≤◌, Bool, true, false, List, length, Decides, MatchBool, get_or, refl, subst, arith}
use Rattle.std.proofs.Math.Bridge.{le_prop}
use Rattle.std.proofs.Math.Logic.{∥∥₁_elim}
use Rattle.std.specs.List.{AllWithin, HoldsAt}
use Rattle.std.proofs.lemmas.Bool.{false≢true}
use Rattle.std.proofs.lemmas.List.FromFn.{length-map-range_with_len}
use Rattle.std.proofs.lemmas.Option.{get_or_from_slice_get, slice_get_within, slice_get-get_or}
use Rattle.rules.specs.declared.term.Term.{Term}
use Rattle.rules.specs.Loaded.{loaded_pair, no_term}
use Rattle.rules.proofs.Nths.{nth_member, member_nth}
use Rattle.law.specs.Groups.{State, OneGroup}
use Rattle.law.specs.Runs.{Reached}
use Rattle.trial.specs.declared.held.Held.{Held}

pub few_pairs : (h : Held) → h.target.pair_count ≤ 32
few_pairs h = ∥∥₁_elim h.form le_prop (λ form. subst (λ n. n ≤ 32) (length-map-range_with_len (loaded_pair h.target) 0 h.target.pair_count) form.few_pairs)

abbrev pub Alike : State → Term × Term → Type 0
Alike s p = OneGroup s p.0 p.1

abbrev pub Apart : State → Term × Term → Type 0
Apart s p = Alike s p → ⊥

-- what a look at every pair says
pub reached : (s : State) (pairs : List (Term × Term)) (r : Bool) →
    MatchBool r (AllWithin (Alike s) pairs 0 (length pairs)) ((k : ℕ) × (k < length pairs) × HoldsAt (Apart s) pairs k) → Decides r (Reached pairs s)
reached s pairs true each = (
  λ _. λ p m.
      let (i, e) = member_nth pairs p m in
      subst (Alike s) (get_or_from_slice_get pairs i p p e) (each i p (omega arith) (slice_get_within pairs i p e)),
  λ _. refl,
)
reached s pairs false (k, within, apart) = (
  λ e. absurd (false≢true e),
  λ all.
      let none : Term × Term = (no_term, no_term) in
      let p = get_or pairs k none in
      absurd (apart none (all p (nth_member pairs k p (slice_get-get_or pairs k none within)))),
)
