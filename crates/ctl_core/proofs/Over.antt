-- When a rendezvous is over, and how many items count until then.
use Rattle.std.proofs.Common.{◌≡◌, ℕ, ◌+◌, ◌*◌, ◌==◌, ◌<◌, ◌≤◌, Bool, true, false, not, cond, if◌then◌else◌, count_by, List, [], ◌∷◌, refl, ap, ◌∙◌, arith, zero-add}
use Rattle.std.proofs.lemmas.Bool.Decides.{nat_tests}
use Rattle.std.specs.List.{list_any}
use Rattle.std.proofs.lemmas.List.Sums.{sum_by-cons}
use Rattle.rendezvous_steps.specs.declared.items.Event.{Event}
use Rattle.rendezvous_steps.specs.Plan.{Plan, threads_from}
use Rattle.rendezvous_steps.specs.Events.{Running, happens, shows_finished}
use Rattle.rendezvous_model.specs.RoundStep.{thread_of}
use Rattle.play_steps.specs.Play.{is_over}
use Rattle.play_steps.specs.Rank.{is_counted, all_ranks}
use Rattle.run_laws.proofs.Ranks.{all_ranks_fall}
use Rattle.ctl_core.specs.Moments.{unfinished_in}

none_counted : (p : ℕ → Bool) (xs : List ℕ) → (count_by p xs == 0) ≡ not (list_any p xs)
none_counted p [] = refl
none_counted p (x ∷ xs) = none_by p x xs (p x) refl (none_counted p xs)
  where
    none_by : (p : ℕ → Bool) (x : ℕ) (xs : List ℕ) (b : Bool) → p x ≡ b → (count_by p xs == 0) ≡ not (list_any p xs) → (count_by p (x ∷ xs) == 0) ≡ not (list_any p (x ∷ xs))
    none_by p x xs true e rest = rw (sum_by-cons (λ k. cond (p k) 1 0) x xs, e) (grind (arith, nat_tests))
    none_by p x xs false e rest = rw (sum_by-cons (λ k. cond (p k) 1 0) x xs, e, zero-add) rest

pub over_by_count : (plan : Plan) (moment : Running) (count : ℕ) → count ≡ unfinished_in plan moment.words → (count == 0) ≡ is_over plan moment
over_by_count plan moment count is =
    ap (λ n. n == 0) is ∙ none_counted (λ t. not (shows_finished plan moment.words t)) (threads_from plan 0)

-- an event counts at most what it takes off the ranks
pub still_few : (plan : Plan) (event : Event) (before after : Running) (spent next : ℕ) → thread_of event < plan.threads → after ≡ (happens plan event before).0 → next ≡ spent + (if is_counted (happens plan event before).1 then 1 else 0) → spent + all_ranks plan before.locals ≤ 20 * plan.threads + 8 → next + all_ranks plan after.locals ≤ 20 * plan.threads + 8
still_few plan event before after spent next below is counts few =
    let fall = all_ranks_fall plan event before below in
    let ranks = ap (λ (r : Running). all_ranks plan r.locals) is in
    omega (arith, fall, ranks, counts, few)
