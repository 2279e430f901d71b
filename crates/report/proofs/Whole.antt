-- The report once its output is closed.
use Rattle.std.proofs.Common.{◌≡◌, ℕ, List, length, replicate, IsErrAnd, Ok, Err, Result, sym, ap, subst, arith}
use Rattle.sheets.specs.Reads.{sheet_meaning}
use Rattle.text.specs.declared.words.Name.{Name}
use Rattle.reader.specs.declared.fault.ReadFault.{ReadFault}
use Rattle.reader.specs.Format.{Memo}
use Rattle.reader.specs.Reads.{Lengths, no_name, Blank}
use Rattle.pieces.specs.declared.output.Output.{Output}
use Rattle.pieces.specs.Put.{size, Same}
use Rattle.writing.specs.Reports.{parts}
use Rattle.writing.specs.Filling.{closed_answer, closed_places}
use Rattle.writing.proofs.Closed.{closes}
use Rattle.report.specs.declared.fault.ReportFault.{ReportFault}
use Rattle.report.specs.declared.fault.ReportFault.TheVariants.{Reading}
use Rattle.report.specs.Faults.{short_fault}
use Rattle.report.specs.Reported.{Sound, Reported, ReportFills, rules_in, targets_in, names_in, HoldsRead, ReadsAndFills, kept, ReportOf}

pub err_is : {E : Type 0} (e : E) (r : Result (Unit {0}) E) → IsErrAnd r (λ y. y ≡ e) → r ≡ Err e
err_is e (Ok u) h = absurd h
err_is e (Err y) h = ap Err h

blank_err : (l : Lengths) (rs ts : List ℕ) (ns : List Name) → length rs ≡ l.rules → length ts ≡ l.targets → length ns ≡ l.names →
    Blank l (replicate (length rs) 0) (replicate (length ts) 0) (replicate (length ns) no_name)
blank_err l rs ts ns a b c = record { rules = ap (λ n. replicate n 0) a; targets = ap (λ n. replicate n 0) b; names = ap (λ n. replicate n no_name) c }

closed-reported : (text : List ℕ) (l : Lengths) (m : Memo) (a b : Output) (put : Result (Unit {0}) ReportFault) (rs ts : List ℕ) (ns : List Name) → a.used ≡ 0 →
    HoldsRead l m rs ts ns → (Sound rs ts → ReportFills (sheet_meaning rs) (sheet_meaning ts) text ns a put b) →
    Sound (rules_in l m) (targets_in l m) → Reported (sheet_meaning (rules_in l m)) (sheet_meaning (targets_in l m)) text (names_in l m) (size a) (closed_answer b put) (closed_places b put)
closed-reported text l m a b put rs ts ns none holds fills sound =
    let f : ReportFills (sheet_meaning (rules_in l m)) (sheet_meaning (targets_in l m)) text (names_in l m) a put b =
    subst (λ (R : List ℕ). Sound R (targets_in l m) → ReportFills (sheet_meaning R) (sheet_meaning (targets_in l m)) text (names_in l m) a put b) holds.rules
    (subst (λ (T : List ℕ). Sound rs T → ReportFills (sheet_meaning rs) (sheet_meaning T) text (names_in l m) a put b) holds.targets
    (subst (λ (N : List Name). Sound rs ts → ReportFills (sheet_meaning rs) (sheet_meaning ts) text N a put b) holds.names fills)) sound in
    record { outcomes = f.outcomes; long = f.long; each = f.each; writes = closes short_fault a b (parts text (names_in l m) f.outcomes) put none f.fills }

ok_err : (u : Unit {0}) (e : ReportFault) → ◌≡◌ {A = Result (Unit {0}) ReportFault} (Ok u) (Err e) → ⊥
ok_err u e q = let z : ◌≡◌ {A = ℕ} 0 1 = cc in omega arith

err_whole : (d e : ReportFault) → ◌≡◌ {A = Result (Unit {0}) ReportFault} (Err d) (Err e) → ◌≡◌ {A = Result ℕ ReportFault} (Err d) (Err e)
err_whole d e q = let same : d ≡ e = cc in ap Err same

closed : (o : Result Memo ReadFault) (text : List ℕ) (l : Lengths) (a b : Output) (put : Result (Unit {0}) ReportFault) (rs ts : List ℕ) (ns : List Name) →
    a.used ≡ 0 → Same a b → length rs ≡ l.rules → length ts ≡ l.targets → length ns ≡ l.names → ReadsAndFills o text l a put b rs ts ns →
    ReportOf o text l (size a) (closed_answer b put) (kept put rs 0) (kept put ts 0) (kept put ns no_name) (closed_places b put)
closed (Ok m) text l a b (Ok u) rs ts ns none same x y z told = (told.0, closed-reported text l m a b (Ok u) rs ts ns none told.0 told.1)
closed (Ok m) text l a b (Err e) rs ts ns none same x y z told =
    ((blank_err l rs ts ns x y z, ap (λ n. replicate n 0) same.long), closed-reported text l m a b (Err e) rs ts ns none told.0 told.1)
closed (Err e) text l a b (Ok u) rs ts ns none same x y z told = absurd (ok_err u (Reading e) told.0)
closed (Err e) text l a b (Err d) rs ts ns none same x y z told =
    (err_whole d (Reading e) told.0, blank_err l rs ts ns x y z, ap (λ n. replicate n 0) same.long)

-- the same by what was answered and left
pub closes_whole : (o : Result Memo ReadFault) (text : List ℕ) (l : Lengths) (a b : Output) (put : Result (Unit {0}) ReportFault) (rs ts : List ℕ) (ns : List Name)
    (r : Result ℕ ReportFault) (rs' ts' : List ℕ) (ns' : List Name) (out : List ℕ) →
    a.used ≡ 0 → Same a b → length rs ≡ l.rules → length ts ≡ l.targets → length ns ≡ l.names → ReadsAndFills o text l a put b rs ts ns →
    r ≡ closed_answer b put → rs' ≡ kept put rs 0 → ts' ≡ kept put ts 0 → ns' ≡ kept put ns no_name → out ≡ closed_places b put →
    ReportOf o text l (size a) r rs' ts' ns' out
closes_whole o text l a b put rs ts ns r rs' ts' ns' out none same x y z told er ers ets ens eout =
    subst (λ (q : Result ℕ ReportFault). ReportOf o text l (size a) q rs' ts' ns' out) (sym er)
    (subst (λ (q : List ℕ). ReportOf o text l (size a) (closed_answer b put) q ts' ns' out) (sym ers)
    (subst (λ (q : List ℕ). ReportOf o text l (size a) (closed_answer b put) (kept put rs 0) q ns' out) (sym ets)
    (subst (λ (q : List Name). ReportOf o text l (size a) (closed_answer b put) (kept put rs 0) (kept put ts 0) q out) (sym ens)
    (subst (λ (q : List ℕ). ReportOf o text l (size a) (closed_answer b put) (kept put rs 0) (kept put ts 0) (kept put ns no_name) q) (sym eout)
    (closed o text l a b put rs ts ns none same x y z told)))))
