-- Calls made one after another lead where the promise holds.
use Rattle.std.proofs.Common.{◌≡◌, ℕ, ◌+◌, ◌<◌, Bool, List, [], ◌∷◌, ◌++◌, map, length, get_or, take, Result, sym, ap, ◌∙◌, subst}
use Rattle.std.proofs.lemmas.List.{take_more, map-append}
use Rattle.rules.specs.Books.{BookMeaning, WellFormedBook}
use Rattle.law.specs.Calls.{View, Call, Answer}
use Rattle.law.specs.Promise.{Unfinished, Steps, TargetsFit}
use Rattle.law.specs.Standing.{ReplayPromised}
use Rattle.law.proofs.Stands.{call_promised, finish_promised, Replaying, replay_more, replay_left, replay_finished}
use Rattle.trial.specs.declared.fault.TrialFault.{TrialFault}
use Rattle.trial.specs.declared.reply.Done.{Done}
use Rattle.trial.specs.declared.request.Request.{Request}
use Rattle.trial.specs.declared.request.Request.TheVariants.{Start, Advance}
use Rattle.trial.specs.declared.replay.Outcome.{Outcome}
use Rattle.trial.specs.declared.replay.Outcome.TheVariants.{Going, Finished as Ended}
use Rattle.trial.specs.Tells.{told}
use Rattle.trial.specs.Replays.{answer_of, asked, Concluded, ReplayedSo}

asked-fits : {T : Type 0} (meaning : T → BookMeaning) → ((t : T) → WellFormedBook (meaning t)) → (q : Request T) → TargetsFit (asked meaning q)
asked-fits meaning well (Start targets number) = well targets.now
asked-fits meaning well (Advance n) = tt

module _ (b : BookMeaning) (fits : WellFormedBook b) where
  -- one more request, and its reply
  pub replay_on : {T : Type 0} (meaning : T → BookMeaning) → ((t : T) → WellFormedBook (meaning t)) → (requests : List (Request T)) (i : ℕ) (q : Request T) →
      i < length requests → get_or requests i q ≡ q → (replies replies' : List (Result Done TrialFault)) (r : Result Done TrialFault) →
      replies' ≡ replies ++ (r ∷ []) → (x y : View) →
      Replaying b (map (asked meaning) (take i requests)) (map answer_of replies) x → Steps b (asked meaning q) x (answer_of r) y →
      Replaying b (map (asked meaning) (take (i + 1) requests)) (map answer_of replies') y
  replay_on meaning well requests i q h is replies replies' r e x y led step =
      let calls : map (asked meaning) (take (i + 1) requests) ≡ map (asked meaning) (take i requests) ++ (asked meaning q ∷ []) =
      ap (map (asked meaning)) (take_more requests i q h) ∙ map-append (asked meaning) (take i requests) (get_or requests i q ∷ [])
      ∙ ap (λ k. map (asked meaning) (take i requests) ++ (asked meaning k ∷ [])) is
      in
      let answers : map answer_of replies' ≡ map answer_of replies ++ (answer_of r ∷ []) =
      ap (map answer_of) e ∙ map-append answer_of replies (r ∷ [])
      in
      let fit = asked-fits meaning well q in
      let more =
      replay_more b (map (asked meaning) (take i requests)) (map answer_of replies) x led (asked meaning q) fit (answer_of r) y
      (call_promised b fits (asked meaning q) fit x (answer_of r) y step)
      in
      let P : List Call → Type 0 = λ cs. Replaying b cs (map answer_of replies ++ (answer_of r ∷ [])) y in
      let Q : List Answer → Type 0 = λ ans. Replaying b (map (asked meaning) (take (i + 1) requests)) ans y in
      subst Q (sym answers) (subst P (sym calls) more)

  pub replay_promised : (calls : List Call) (answers : List Answer) (x : View) → Replaying b calls answers x → (finish : Bool) (o : Outcome) →
      Concluded b x finish o → ReplayedSo b calls finish answers o
  replay_promised calls answers x led finish (Going t) (e, is) = (
    e,
    subst (λ (y : View). ReplayPromised b calls answers y Unfinished) (sym is) (replay_left b fits calls answers x led),
  )
  replay_promised calls answers x led finish (Ended f) (e, end) = (
    e,
    (x, replay_finished b calls answers x led (told f) (finish_promised b fits x (told f) end)),
  )
