-- Every case works.
use Rattle.std.proofs.Common.{◌≡◌, ℕ, ◌+◌, Bool, true, false, List, [], ◌∷◌, map, Some, None, Option, sym, refl, ap, ◌∙◌, subst, inl, inr, arith}
use mathlib.Core.List.Memᴰ
use Rattle.rules.specs.Rules.{◌∈◌, Rule}
use Rattle.rules.specs.Books.{BookMeaning, base, WellFormed, WellFormedBook}
use Rattle.rules.specs.Doubled.{doubled_rows, doubled_pairs}
use Rattle.law.specs.declared.outcome.Verdict.{Verdict}
use Rattle.law.specs.declared.outcome.Verdict.TheVariants.{Fails}
use Rattle.law.specs.Groups.{State}
use Rattle.law.specs.Runs.{Run, none, Ended, clash_met, pairs_met, pairs_apart}
use Rattle.law.specs.Calls.{Started, View, Blank, Going, fresh, moved, Start, Advance, Answer, Done, Finished, Finishes, finished_rows}
use Rattle.law.specs.Promise.{Turn, last_view, target_of, History}
use Rattle.law.proofs.Starting.{Fit, starts_fit}
use Rattle.law.proofs.Lawful.{run_lawful}
use Rattle.law.proofs.SameEnd.{none_some, same_rows, same_end}
use Rattle.law.proofs.RunEnds.{runs_alike, started, started-history, run_finishes}
use Rattle.law.proofs.Histories.{history_sane}
use Rattle.law.proofs.Kept.{KnownEnd, at_blank, at_told, known_end}
use Rattle.law.proofs.Due.{ended_rests}
use Rattle.worked.specs.Cases.{Case, one_press_weight, dock_weight_open, weights_that_agree, agreement_gives_no_key, two_constants_for_one, two_cycle, one_loop, chained_keys}
use Rattle.worked.specs.Works.{EndsSo, at_rest, merges_left, AsTold, Works, EveryCaseWorks}
use Rattle.worked.proofs.Fits.{fits_test, fits-right, book_test, book-right}
use Rattle.worked.proofs.Settled.{gives, settle, Result, settled}
use Rattle.worked.proofs.Answering.{dues, answers-at_rest, answers-of_start}

fails_rests : (c : Case) (s : State) {clash : Bool} {v : Verdict} → Ended c.book.rules (doubled_rows c.target) (doubled_pairs c.target) s clash v →
    v ≡ Fails → clash ≡ false
fails_rests c s (clash_met k) e = let z : ◌≡◌ {A = ℕ} 0 1 = cc in absurd (omega arith)
fails_rests c s (pairs_met rest k) e = refl
fails_rests c s (pairs_apart rest k) e = refl

same_at_rest : (clash clash' : Bool) (n n' : ℕ) → clash ≡ clash' → (clash ≡ false → n ≡ n') → at_rest clash n ≡ at_rest clash' n'
same_at_rest true clash' n n' e h = ap (λ (k : Bool). at_rest k n') e
same_at_rest false clash' n n' e h = ap Some (h refl) ∙ ap (λ (k : Bool). at_rest k n') e

-- a finished trial of a target was going
going : {b : BookMeaning} (o : Option Rule) (t : Rule) → o ≡ Some t → {f : Finished} → KnownEnd b o f → (x : Started) × (f.left ≡ Going x)
going o t e (at_blank k) = absurd (none_some t (sym k ∙ e))
going o t e (at_told {x = x} g rest told) = (x, refl)

-- each symbol alone
abbrev first : State
first v = base + v

module _ (c : Case) (book_fits : WellFormedBook c.book) (fits : WellFormed c.book.width c.target) (clash : Bool) (n : ℕ)
    (merges_are : at_rest clash n ≡ c.merges) where
  abbrev fit : Fit c.book (doubled_rows c.target)
  fit = starts_fit c.book book_fits c.target fits

  abbrev Found : Type 0
  Found = Result c.book (doubled_rows c.target) fit (doubled_pairs c.target) first clash c.verdict n c.rows

  abbrev run_of : (r : Found) → Run c.book.rules (doubled_rows c.target) r.last n
  run_of r = record { first = first; alone = λ v k. refl; merges = r.merges }

  told : Found → (s : State) (m : ℕ) (clash' : Bool) (v : Verdict) → EndsSo c s m clash' v → AsTold c s m clash' v
  told r s m clash' v e =
      let same =
      runs_alike c.book book_fits c.target fits s r.last m n e.run (run_of r) clash' clash v c.verdict e.ends r.ends
      in
      record {
        verdict = same.verdict;
        merges = same_at_rest clash' clash m n same.clashed same.merges ∙ merges_are;
        rows = λ k.
            same_rows c.book (doubled_rows c.target) fit s r.last (same.groups (fails_rests c s e.ends k)) ∙ r.rows (sym same.verdict ∙ k);
      }

  finishes : Found → (turns : List Turn) (views : List View) → History c.book turns views → target_of turns ≡ Some c.target →
      (f : Finished) → Finishes c.book (last_view Blank views) f →
      (f.verdict ≡ c.verdict) × (finished_rows f ≡ c.rows) × (merges_left f.left ≡ c.merges)
  finishes r turns views h e f finish =
      let run = run_of r in
      let x = fresh c.book.width c.target first in
      let y = moved x r.last n clash in
      let same =
      same_end c.book book_fits c.target turns (started c.book book_fits c.target fits ∷ []) views (Going x ∷ []) h
      (started-history c.book book_fits c.target fits first run.alone) e refl f (record { verdict = c.verdict; left = Going y }) finish
      (run_finishes c.book book_fits c.target fits r.last n run clash c.verdict r.ends)
      in
      let z = going (target_of turns) c.target e (known_end c.book book_fits (target_of turns) finish (history_sane c.book book_fits turns views h)) in
      let left = same.left z.0 y z.1 refl in (
        same.verdict,
        same.rows ∙ r.told y refl refl,
        ap merges_left z.1 ∙ same_at_rest z.0.clashed clash z.0.merges n left.clashed (λ k. let m = left.merges k in omega arith) ∙ merges_are,
      )

-- by a search that comes to rest
resting : (c : Case) (n : ℕ) → book_test c.book ≡ true → fits_test c.book.width c.target ≡ true →
    settle 9 c.book.rules (doubled_rows c.target) (doubled_pairs c.target) first 0 ≡ gives false c.verdict n c.rows →
    Some n ≡ c.merges → dues n c.limits ≡ c.answers → Works c
resting c n book-ok target_ok found merges_are answers-are =
    let book_fits = book-right c.book book-ok in
    let fits = fits-right c.book.width c.target target_ok in
    let start = doubled_rows c.target in
    let fitting = starts_fit c.book book_fits c.target fits in
    let r = settled c.book start fitting (doubled_pairs c.target) first false c.verdict n c.rows 9 first 0 none found in
    let run = run_of c book_fits fits false n merges_are r in
    record {
      book_fits = book_fits;
      target_fits = fits;
      a_run = (r.last, n, false, c.verdict, record { run = run; ends = r.ends });
      every_run = told c book_fits fits false n merges_are r;
      every_finish = finishes c book_fits fits false n merges_are r;
      every_answer = λ turns views h e targets k is.
          answers-at_rest c.book book_fits c.target fits r.last n (run_lawful c.book start fitting r.last n run)
          (ended_rests c.book c.target r.last r.ends refl) turns views h.answered h.given e targets k c.limits is ∙
          ap (λ (answers : List Answer). Done ∷ answers) answers-are;
    }

-- by a search that clashes
clashing : (c : Case) (n : ℕ) → book_test c.book ≡ true → fits_test c.book.width c.target ≡ true →
    settle 9 c.book.rules (doubled_rows c.target) (doubled_pairs c.target) first 0 ≡ gives true c.verdict n c.rows →
    None ≡ c.merges → c.limits ≡ [] → c.answers ≡ [] → Works c
clashing c n book-ok target_ok found merges_are no-limits no-answers =
    let book_fits = book-right c.book book-ok in
    let fits = fits-right c.book.width c.target target_ok in
    let start = doubled_rows c.target in
    let fitting = starts_fit c.book book_fits c.target fits in
    let r = settled c.book start fitting (doubled_pairs c.target) first true c.verdict n c.rows 9 first 0 none found in
    record {
      book_fits = book_fits;
      target_fits = fits;
      a_run = (r.last, n, true, c.verdict, record { run = run_of c book_fits fits true n merges_are r; ends = r.ends });
      every_run = told c book_fits fits true n merges_are r;
      every_finish = finishes c book_fits fits true n merges_are r;
      every_answer = λ turns views h e targets k is.
          answers-of_start c.book book_fits c.target fits turns views h.answered h.given e targets k
          (is ∙ ap (λ (ns : List ℕ). Start targets k ∷ map Advance ns) no-limits) ∙
          ap (λ (answers : List Answer). Done ∷ answers) (sym no-answers);
    }

-- the list, one after another
each : (cs : List Case) → ((c : Case) → c ∈ cs → Works c) → (d : Case) → Works d → (c : Case) → c ∈ (d ∷ cs) → Works c
each cs all d here c m = elim (Memᴰ.cases_cons m) [ inl e ↦ subst Works (sym e) here | inr k ↦ all c k ]

nothing-more : (c : Case) → c ∈ [] → Works c
nothing-more c m = elim m [ ]

pub works : EveryCaseWorks
works =
    each _ (each _ (each _ (each _ (each _ (each _ (each _ (each _ nothing-more
    chained_keys (resting chained_keys 2 refl refl refl refl refl))
    one_loop (resting one_loop 0 refl refl refl refl refl))
    two_cycle (resting two_cycle 1 refl refl refl refl refl))
    two_constants_for_one (clashing two_constants_for_one 0 refl refl refl refl refl refl))
    agreement_gives_no_key (resting agreement_gives_no_key 0 refl refl refl refl refl))
    weights_that_agree (resting weights_that_agree 3 refl refl refl refl refl))
    dock_weight_open (resting dock_weight_open 1 refl refl refl refl refl))
    one_press_weight (resting one_press_weight 1 refl refl refl refl refl)
