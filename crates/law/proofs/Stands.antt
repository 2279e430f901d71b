-- Each call keeps the promise.
use Rattle.std.proofs.Common.{◌≡◌, ℕ, List, [], ◌∷◌, ◌++◌, length, sym, refl, ap, subst, arith, length-append}
use Rattle.rules.specs.Books.{BookMeaning, WellFormedBook}
use Rattle.law.specs.declared.outcome.Stop.TheVariants.{Rest, Clash}
use Rattle.law.specs.declared.outcome.Verdict.TheVariants.{Follows, Fails}
use Rattle.law.specs.Runs.{Reached, clash_met, pairs_met, pairs_apart}
use Rattle.law.specs.Calls.{Started, View, Blank, Going, Call, Answer, Made, Advances, stopped, rests, clashes, Finished, Finishes, clashed_before, ended}
use Rattle.law.specs.Promise.{Turn, Unfinished, FinishedBy, TargetsFit, LeadsTo}
use Rattle.law.specs.Standing.{CallPromised, FinishPromised, turns_of, ReplayPromised, EveryCallPromised, EveryFinishPromised}
use Rattle.law.proofs.Histories.{history_more, history_added, history_none}
use Rattle.law.proofs.Kept.{kept}

pub call_promised : EveryCallPromised
call_promised b fits call targets_fit x a y step turns views leads =
    let t : Turn = record { book = b; call = call; answer = a } in
    let longer = history_more b turns views x leads t (record { book_is = refl; targets_fit = targets_fit }) y step in
    kept b fits (turns ++ (t ∷ [])) (views ++ (y ∷ [])) Unfinished longer.history tt tt

pub finish_promised : EveryFinishPromised
finish_promised b fits x f finish turns views leads =
    kept b fits turns views (FinishedBy b f) leads.history refl (subst (λ (z : View). Finishes b z f) (sym leads.ends_at) finish)

-- one more call and its answer are one more turn
pub turns_more : (b : BookMeaning) (calls : List Call) (answers : List Answer) (call : Call) (a : Answer) → length answers ≡ length calls →
    turns_of b (calls ++ (call ∷ [])) (answers ++ (a ∷ [])) ≡ turns_of b calls answers ++ (record { book = b; call = call; answer = a } ∷ [])
turns_more b [] [] call a e = refl
turns_more b [] (z ∷ answers) call a e = absurd (omega arith)
turns_more b (c ∷ calls) [] call a e = absurd (omega arith)
turns_more b (c ∷ calls) (z ∷ answers) call a e =
    ap (λ (ts : List Turn). record { book = b; call = c; answer = z } ∷ ts) (turns_more b calls answers call a (omega arith))

-- a replay under way: these calls were made, with these answers, and have left the trial as x
pub record Replaying (b : BookMeaning) (calls : List Call) (answers : List Answer) (x : View) : Type 0 where
  pub all_answered : length answers ≡ length calls
  pub views : List View
  pub leads : LeadsTo b (turns_of b calls answers) views x

pub replay_none : (b : BookMeaning) → Replaying b [] [] Blank
replay_none b = record { all_answered = refl; views = []; leads = history_none b }

-- one more call, by its contract
pub replay_more : (b : BookMeaning) (calls : List Call) (answers : List Answer) (x : View) → Replaying b calls answers x →
    (call : Call) → TargetsFit call → (a : Answer) (y : View) → CallPromised b call x a y → Replaying b (calls ++ (call ∷ [])) (answers ++ (a ∷ [])) y
replay_more b calls answers x r call targets_fit a y promised =
    let t : Turn = record { book = b; call = call; answer = a } in
    let is = turns_more b calls answers call a r.all_answered in
    let kept = promised (turns_of b calls answers) r.views r.leads in
    let len = length-append answers (a ∷ []) in
    let len' = length-append calls (call ∷ []) in
    let same = r.all_answered in
    record {
      all_answered = omega arith;
      views = r.views ++ (y ∷ []);
      leads = subst (λ (ts : List Turn). LeadsTo b ts (r.views ++ (y ∷ [])) y) (sym is)
          (history_added b (turns_of b calls answers) r.views x r.leads t (record { book_is = refl; targets_fit = targets_fit }) y kept.answered.0);
    }

-- the end of a replay, without a finish and with one, by its contract
pub replay_left : (b : BookMeaning) → WellFormedBook b → (calls : List Call) (answers : List Answer) (x : View) → Replaying b calls answers x →
    ReplayPromised b calls answers x Unfinished
replay_left b fits calls answers x r =
    record {
      all_answered = r.all_answered;
      views = r.views;
      left = r.leads.ends_at;
      promise = kept b fits (turns_of b calls answers) r.views Unfinished r.leads.history tt tt;
    }

pub replay_finished : (b : BookMeaning) (calls : List Call) (answers : List Answer) (x : View) → Replaying b calls answers x →
    (f : Finished) → FinishPromised b x f → ReplayPromised b calls answers x (FinishedBy b f)
replay_finished b calls answers x r f promised =
    record {
      all_answered = r.all_answered;
      views = r.views;
      left = r.leads.ends_at;
      promise = promised (turns_of b calls answers) r.views r.leads;
    }

-- a finish as an advance that was not spent, and a look at the pairs
pub finish_clashed : (b : BookMeaning) (n m : ℕ) {x y : View} → Advances b n x (Made m Clash) y → Finishes b x (record { verdict = Follows; left = y })
finish_clashed b n m (stopped w c) = clashed_before w c
finish_clashed b n m (clashes w c merges l clash) = ended w c merges (clash_met clash)

pub finish_reached : (b : BookMeaning) (n m : ℕ) {x : View} {y : Started} → Advances b n x (Made m Rest) (Going y) → Reached y.pairs y.shows →
    Finishes b x (record { verdict = Follows; left = Going y })
finish_reached b n m (rests w c merges l rest) reached = ended w c merges (pairs_met rest reached)

pub finish_apart : (b : BookMeaning) (n m : ℕ) {x : View} {y : Started} → Advances b n x (Made m Rest) (Going y) → (Reached y.pairs y.shows → ⊥) →
    Finishes b x (record { verdict = Fails; left = Going y })
finish_apart b n m (rests w c merges l rest) apart = ended w c merges (pairs_apart rest apart)
