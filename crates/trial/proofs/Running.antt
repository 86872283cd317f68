-- A run on its way through a log.
use Rattle.std.proofs.Common.{◌≡◌, ℕ, ◌+◌, ◌<◌, List, [], ◌∷◌, ◌++◌, map, length, get_or, take, set, Some, refl, ap, arith}
use Rattle.std.proofs.lemmas.List.{get_or-map, length-map, map_push, map-set, set-get_or, take_more, take_more_set}
use Rattle.trial.specs.Parts.{Parts}
use Rattle.trial.specs.Views.{View}
use Rattle.trial.specs.Law.{Law, Lawful}
use Rattle.trial.specs.Logs.{answers_of, calls_of}
use Rattle.trial.specs.Tally.{answered, answers_to}
use Rattle.trial.specs.declared.call.Answer.{Answer}
use Rattle.trial.specs.declared.log.Logged.{Logged}
use Rattle.trial.proofs.Tallies.{answered_more}

-- over the parts p, the first i calls of the log `was` led to v, and the log now has their answers
pub record Running (p : Parts) (was log : List Logged) (i : ℕ) (v : View) : Type 0 where
  pub calls : calls_of log ≡ calls_of was
  pub law : Law p (take i (calls_of was)) v
  pub answers : answers_of (take i log) ≡ map Some (answers_to p (take i (calls_of was)))

pub running_starts : (p : Parts) (log : List Logged) (v : View) → Law p [] v → Running p log log 0 v
unfolding answered
running_starts p log v law = record { calls = refl; law = law; answers = refl }

pub running_more : (p : Parts) (was log : List Logged) (i : ℕ) (v w : View) (d : Logged) (r : Answer) → Running p was log i v → i < length log
    → Lawful v (get_or log i d).call r w → Running p was (set log i (record { call = (get_or log i d).call; answer = Some r })) (i + 1) w
running_more p was log i v w d r so_far inside lawful =
    let call = (get_or log i d).call in
    let same = get_or-map (λ (x : Logged). x.call) log i d call inside in
    let long : i < length (calls_of was) = omega (arith, ap length so_far.calls, length-map log (λ (x : Logged). x.call)) in
    let here : get_or (calls_of was) i call ≡ call = rw (← so_far.calls) same in
    let more : take (i + 1) (calls_of was) ≡ take i (calls_of was) ++ (call ∷ []) = rw (take_more (calls_of was) i call long, here) in
    let made = lawful p (take i (calls_of was)) so_far.law.follows in
    record {
      calls = rw (map-set, ← same, set-get_or) so_far.calls;
      law = rw more made.1;
      answers = rw (take_more_set log i _ inside, map_push (λ (x : Logged). x.answer), so_far.answers, more, answered_more, map_push Some, ← made.0);
    }
