-- What is printed of a report.
use Rattle.std.proofs.Common.{◌≡◌, ℕ, ◌-◌, ◌^◌, ◌<◌, ◌≤◌, Bool, true, false, List, [], ◌∷◌, ◌++◌, length, take, replicate, Ok, Err, Result, ap, ◌∙◌, append-nil, arith, lit≤}
use Rattle.std.specs.Result.{result_unwrap_or}
use lib.Seq.{take-append_seam}
use Rattle.rules.specs.declared.refusal.Refusal.{Refusal}
use Rattle.text.specs.declared.words.Name.{Name}
use Rattle.reader.specs.declared.fault.ReadFault.{ReadFault}
use Rattle.reader.specs.Format.{Memo, read_text}
use Rattle.reader.specs.Reads.{Lengths, rooms_in}
use Rattle.writing.specs.declared.room.TooShort.{TooShort}
use Rattle.writing.specs.Faults.{short_at}
use Rattle.writing.specs.Reports.{parts, refusal_text}
use Rattle.writing.specs.Fitting.{whole, Fits, Writes}
use Rattle.writing.specs.Enough.{enough}
use Rattle.writing.proofs.Alike as alike
use Rattle.writing.proofs.Lengths.{refusal_enough}
use Rattle.report.specs.declared.fault.ReportFault.{ReportFault}
use Rattle.report.specs.declared.fault.ReportFault.TheVariants.{Reading}
use Rattle.report.specs.Faults.{report_refusal, short_fault}
use Rattle.report.specs.Reported.{names_in}
use Rattle.report.specs.Answered.{AnswerOf, Printed}
use Rattle.report.proofs.Single.{always_fits}

never_ok : {A : Type 0} (n : ℕ) (f : ReportFault) → ◌≡◌ {A = Result ℕ ReportFault} (Ok n) (Err f) → A
never_ok n f e = let z : ◌≡◌ {A = ℕ} 0 1 = cc in absurd (omega arith)

never_true : {A : Type 0} → ◌≡◌ {A = Bool} false true → A
never_true e = let z : ◌≡◌ {A = ℕ} 0 1 = cc in absurd (omega arith)

-- the front of an output that the parts fit
pub front : (size : ℕ) (ps : List (List ℕ)) (n : ℕ) (out : List ℕ) → Fits size ps n out → take n out ≡ whole ps
front size ps n out f = ap (λ xs. take n xs) f.holds ∙ ap (λ k. take k (whole ps ++ replicate (size - n) 0)) f.long ∙ take-append_seam (whole ps) (replicate (size - n) 0)

pub printed_ok : (o : Result Memo ReadFault) (text : List ℕ) (l : Lengths) (room n : ℕ) (rs ts : List ℕ) (ns : List Name) (out : List ℕ) → AnswerOf o text l room (Ok n) rs ts ns out → Printed o text l (take n out)
printed_ok (Err e) text l room n rs ts ns out h = never_ok n (Reading e) h.0
printed_ok (Ok m) text l room n rs ts ns out h = record { outcomes = h.outcomes; answered = h.answered; is = front room (parts text (names_in l m) h.outcomes) n out h.writes }

same_fault : (f g : ReportFault) → ◌≡◌ {A = Result ℕ ReportFault} (Err f) (Err g) → f ≡ g
same_fault f g e = cc

pub printed_err : (o : Result Memo ReadFault) (text : List ℕ) (l : Lengths) (room : ℕ) (f : ReportFault) (rs ts : List ℕ) (ns : List Name) (out : List ℕ) → read_text (rooms_in l) text ≡ o → enough ≤ room →
    AnswerOf o text l room (Err f) rs ts ns out → Printed o text l (refusal_text (report_refusal f))
printed_err (Err e) text l room f rs ts ns out q long h = ap (λ g. refusal_text (report_refusal g)) (same_fault f (Reading e) h.0)
printed_err (Ok m) text l room f rs ts ns out q long h =
    let fits = always_fits l text m q h.outcomes h.answered in
    never_true ((alike.written ReportFault short_fault room (parts text (names_in l m) h.outcomes) (Err f) out h.writes).1 (omega arith))

pub enough-is : enough ≤ 415756
unfolding enough
enough-is = lit≤ tt

-- a refusal always fits 40 places
pub line_fits : (r : Refusal) (size : ℕ) (f : TooShort) (out : List ℕ) → 40 ≤ size → r.number < 256 → r.place < 2 ^ 64 → Writes short_at size (refusal_text r ∷ []) (Err f) out → ⊥
line_fits r size f out room small here w =
    let fits = refusal_enough r small here in
    let one = ap length (append-nil (refusal_text r)) in
    never_true ((alike.written TooShort short_at size (refusal_text r ∷ []) (Err f) out w).1 (omega arith))

pub line_is : (r : Refusal) (size n : ℕ) (out : List ℕ) → Writes short_at size (refusal_text r ∷ []) (Ok n) out → take n out ≡ refusal_text r
line_is r size n out w = front size (refusal_text r ∷ []) n out w ∙ append-nil (refusal_text r)

-- so the line is written, whatever would be answered of a fault
pub line_written : (r : Refusal) (size n : ℕ) (w : Result ℕ TooShort) (out : List ℕ) → 40 ≤ size → r.number < 256 → r.place < 2 ^ 64 → Writes short_at size (refusal_text r ∷ []) w out →
    n ≡ result_unwrap_or w 0 → take n out ≡ refusal_text r
line_written r size n (Ok x) out room small here w e = ap (λ k. take k out) e ∙ line_is r size x out w
line_written r size n (Err f) out room small here w e = absurd (line_fits r size f out room small here w)
