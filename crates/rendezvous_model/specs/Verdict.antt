-- What a load answers for an outcome: the first that holds, and else Done.
use Rattle.std.specs.Prelude.{◌≡◌, ◌<◌, ◌≤◌, ℕ, ◌-◌, Bool, true, false, ◌&&◌, ◌==◌, nat_le, List, [], ◌∷◌, Option, Some}
use Rattle.std.specs.Prelude.{None, unwrap_or, option_map, count_by, find, get_or}
use Rattle.std.specs.List.{list_any}
use Rattle.rendezvous_steps.specs.declared.steps.ThreadResult.TheVariants as results
use Rattle.rendezvous_steps.specs.declared.ends.End.{End}
use Rattle.rendezvous_steps.specs.declared.ends.End.TheVariants as ends
use Rattle.rendezvous_steps.specs.Plan.{Plan, is_primary, threads_from}
use Rattle.rendezvous_model.specs.Outcome.{Outcome}

-- the numbers are those of threads, and of OfflineSilent that of the kicks that were taken back
pub data Verdict : Type 0 where
  Done : Verdict
  Panicked : ℕ → Verdict
  Unfinished : ℕ → Verdict
  OfflineSilent : ℕ → Verdict
  TimedOut : ℕ → Verdict
  Failed : ℕ → Verdict
  Incomplete : ℕ → Verdict

abbrev pub ended_halted : End → Bool
ended_halted ends.Halted = true
ended_halted end = false

abbrev pub ended_unfinished : End → Bool
ended_unfinished ends.Unfinished = true
ended_unfinished end = false

abbrev pub ended_withdrawn : End → Bool
ended_withdrawn ends.Withdrawn = true
ended_withdrawn end = false

abbrev pub left_updated : End → Bool
left_updated (ends.Left results.Updated) = true
left_updated end = false

abbrev pub left_with_error : End → Bool
left_with_error (ends.Left results.Error) = true
left_with_error end = false

-- past the table's end no thread took part
abbrev pub end_at : Outcome → ℕ → End
end_at outcome t = get_or outcome.ends t ends.Absent

-- The tests of an end, by the thread's number.

abbrev pub halted_at : Outcome → ℕ → Bool
halted_at outcome t = ended_halted (end_at outcome t)

abbrev pub unfinished_at : Outcome → ℕ → Bool
unfinished_at outcome t = ended_unfinished (end_at outcome t)

-- a primary that left with Error: its group refused
abbrev pub refused_at : Plan → Outcome → ℕ → Bool
refused_at plan outcome t = is_primary plan t && left_with_error (end_at outcome t)

-- how many kicks were taken back, and whether a thread left with Updated
abbrev pub withdrawn_count : Outcome → ℕ
withdrawn_count outcome = count_by ended_withdrawn outcome.ends

abbrev pub some_updated : Outcome → Bool
some_updated outcome = list_any left_updated outcome.ends

-- The answer as a relation.

pub record IsLowest (plan : Plan) (test : ℕ → Bool) (t : ℕ) : Type 0 where
  pub passes : test t ≡ true
  pub within : t < plan.threads
  pub lowest : (u : ℕ) → u < t → test u ≡ false

abbrev pub NoThread : Plan → (ℕ → Bool) → Type 0
NoThread plan test = (u : ℕ) → u < plan.threads → test u ≡ false

-- no thread halted, and none is unfinished
abbrev pub AllEnded : Plan → Outcome → Type 0
AllEnded plan outcome = NoThread plan (halted_at outcome) × NoThread plan (unfinished_at outcome)

-- each answer where it holds and none before it does
abbrev pub LoadVerdict : Plan → Outcome → Verdict → Type 0
LoadVerdict plan outcome (Panicked t) = IsLowest plan (halted_at outcome) t
LoadVerdict plan outcome (Unfinished t) = NoThread plan (halted_at outcome) × IsLowest plan (unfinished_at outcome) t
LoadVerdict plan outcome (OfflineSilent k) =
    AllEnded plan outcome × (outcome.decide ≡ 2) × (k ≡ withdrawn_count outcome)
LoadVerdict plan outcome (TimedOut t) = AllEnded plan outcome × (3 ≤ outcome.decide) × (t ≡ outcome.decide - 3)
LoadVerdict plan outcome (Failed t) =
    AllEnded plan outcome × (outcome.decide < 2) × IsLowest plan (refused_at plan outcome) t
    × (some_updated outcome ≡ false)
LoadVerdict plan outcome (Incomplete t) =
    AllEnded plan outcome × (outcome.decide < 2) × IsLowest plan (refused_at plan outcome) t
    × (some_updated outcome ≡ true)
LoadVerdict plan outcome Done =
    AllEnded plan outcome × (outcome.decide < 2) × NoThread plan (refused_at plan outcome)

-- The answer as a function.

-- the lowest thread that passes a test
unfoldable pub lowest : Plan → (ℕ → Bool) → Option ℕ
lowest plan test = find test (threads_from plan 0)

-- the first that is there
abbrev pub first_there : List (Option Verdict) → Option Verdict
first_there [] = None
first_there (None ∷ rest) = first_there rest
first_there (Some verdict ∷ rest) = Some verdict

abbrev pub dropped : Bool → Bool → Outcome → Option Verdict
dropped true by_thread outcome = Some (OfflineSilent (withdrawn_count outcome))
dropped false true outcome = Some (TimedOut (outcome.decide - 3))
dropped false false outcome = None

abbrev pub refused : Bool → ℕ → Verdict
refused true t = Incomplete t
refused false t = Failed t

abbrev pub verdict_from : Outcome → Option ℕ → Option ℕ → Option Verdict → Option ℕ → Verdict
verdict_from outcome halted unfinished drop refusing =
    unwrap_or
    (first_there (
    option_map Panicked halted
    ∷ option_map Unfinished unfinished
    ∷ drop
    ∷ option_map (refused (some_updated outcome)) refusing
    ∷ []
    ))
    Done

unfoldable pub load_verdict : Plan → Outcome → Verdict
load_verdict plan outcome =
    verdict_from outcome (lowest plan (halted_at outcome)) (lowest plan (unfinished_at outcome))
    (dropped (outcome.decide == 2) (nat_le 3 outcome.decide) outcome)
    (lowest plan (refused_at plan outcome))
