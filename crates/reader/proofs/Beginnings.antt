-- What is taken of a text stands in the lists, and so in the lent places.
use Rattle.std.proofs.Common.{◌≡◌, ℕ, min, List, [], map, length, take, Ok, Err, Result, MatchResult, sym, ap, ◌∙◌, subst}
use lib.ListN.{length-map}
use Rattle.std.specs.List.{AllByRecursion}
use Rattle.text.specs.declared.list.Places.{Places}
use Rattle.text.specs.declared.words.Name.{Name}
use Rattle.text.specs.Filled.{items}
use Rattle.text.specs.Lines.{lines_at}
use Rattle.text.specs.Words.{name_of, word_in}
use Rattle.reader.specs.declared.fault.ReadFault.{ReadFault}
use Rattle.reader.specs.declared.desk.Desk.{Desk}
use Rattle.reader.specs.declared.desk.Lent.{Lent}
use Rattle.reader.specs.declared.desk.Part.TheVariants.{Rules}
use Rattle.reader.specs.Format.{places, Memo, read_lines, whole_text, nothing}
use Rattle.reader.specs.Lists.{words_in, Inside, Within}
use Rattle.reader.specs.Held.{held}
use Rattle.reader.specs.Begun.{Listed, Begun}
use Rattle.reader.proofs.Numbered.{length-items}
use Rattle.reader.proofs.Names.{names_back}

module _ (t : List ℕ) (rs ts : Places ℕ) (ns vs : Places Name) where
  abbrev begun_with : ℕ → Memo → Result Memo ReadFault
  begun_with v m = read_lines (record { rules = places (min (length rs.places.now) 4096); targets = places (min (length ts.places.now) 4096); names = places (min (length ns.places.now) 4096); vars = places (min v 4096) }) 1 whole_text m (lines_at 0 t)

  abbrev put_so_far : Memo
  put_so_far = record { width = 0; part = Rules; rules = items rs; targets = items ts; names = words_in t (items ns); vars = words_in t (items vs) }

  -- from empty lists, with room for 32 variables
  from_none : (rs.used ≡ 0) × (ts.used ≡ 0) × (ns.used ≡ 0) × (vs.used ≡ 0) → length vs.places.now ≡ 32 → begun_with 32 nothing ≡ begun_with (length vs.places.now) put_so_far
  from_none h few =
      let a : [] ≡ items rs = ap (λ k. take k rs.places.now) (sym h.0) in
      let b : [] ≡ items ts = ap (λ k. take k ts.places.now) (sym h.1) in
      let c : [] ≡ items ns = ap (λ k. take k ns.places.now) (sym h.2) in
      let d : [] ≡ items vs = ap (λ k. take k vs.places.now) (sym h.3) in
      let e : 32 ≡ length vs.places.now = sym few in
      (λ i. begun_with (e i) (record { width = 0; part = Rules; rules = a i; targets = b i; names = words_in t (c i); vars = words_in t (d i) }))

-- the lists that the desk held
listed : (t : List ℕ) (e : Desk) (rs ts : Places ℕ) (ns : Places Name) → e.text.now ≡ t → rs ≡ e.rules.now → ts ≡ e.targets.now → ns ≡ e.names.now → Listed t (held e) rs ts ns
listed t e rs ts ns text r s n = record {
  within = (subst Within (sym r) e.rules_within, subst Within (sym s) e.targets_within, subst Within (sym n) e.names_within);
  rules = ap items r;
  targets = ap items s;
  names = (λ i. words_in (sym text i) (items (n i)));
  inside = subst (λ l. AllByRecursion (Inside t) (items l)) (sym n) (subst (λ u. AllByRecursion (Inside u) (items e.names.now)) text e.names_inside);
}

module _ (t : List ℕ) (rs ts : Places ℕ) (ns vs : Places Name) (none : (rs.used ≡ 0) × (ts.used ≡ 0) × (ns.used ≡ 0) × (vs.used ≡ 0)) (few : length vs.places.now ≡ 32) (e : Desk) (us ws : Places ℕ) (ms : Places Name) (text : e.text.now ≡ t) (u : us ≡ e.rules.now) (w : ws ≡ e.targets.now) (n : ms ≡ e.names.now) where
  pub lines_taken : (r : Result (Unit {0}) ReadFault) → MatchResult r (λ x. begun_with t rs ts ns vs (length vs.places.now) (put_so_far t rs ts ns vs) ≡ Ok (held e)) (λ x. begun_with t rs ts ns vs (length vs.places.now) (put_so_far t rs ts ns vs) ≡ Err x)
      → MatchResult r (λ x. (m : Memo) × (begun_with t rs ts ns vs 32 nothing ≡ Ok m) × Listed t m us ws ms) (λ x. begun_with t rs ts ns vs 32 nothing ≡ Err x)
  lines_taken (Ok x) told = (held e, from_none t rs ts ns vs none few ∙ told, listed t e us ws ms text u w n)
  lines_taken (Err x) told = from_none t rs ts ns vs none few ∙ told

pub begun : (t : List ℕ) (m : Memo) (rs ts : Places ℕ) (ns : Places Name) (l : Lent) → Listed t m rs ts ns → l.rules.now ≡ rs.places.now → l.targets.now ≡ ts.places.now → l.names.now ≡ ns.places.now → Begun t m (record { rules = rs.used; targets = ts.used; names = ns.used }) l
begun t m rs ts ns l h r s n =
    let back : map name_of m.names ≡ items ns = ap (map name_of) (sym h.names) ∙ names_back t (items ns) h.inside in
    record {
      rules = ap (take rs.used) r ∙ h.rules;
      targets = ap (take ts.used) s ∙ h.targets;
      names = ap (take ns.used) n ∙ sym back;
      parts = ap (words_in t) back ∙ h.names;
      many = (sym (length-items rs h.within.0) ∙ ap length h.rules, sym (length-items ts h.within.1) ∙ ap length h.targets, sym (length-items ns h.within.2) ∙ sym (length-map (items ns) (word_in t)) ∙ ap length h.names);
    }
