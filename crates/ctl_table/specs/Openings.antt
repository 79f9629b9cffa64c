-- What a bay begins with.
use Rattle.std.specs.Prelude.{ℕ, ◌+◌, ◌-◌, ◌*◌, ◌==◌, ◌&&◌, if◌then◌else◌, nat_le, nat_lt, List, map}
use Rattle.std.specs.List.{range_with_len}
use Rattle.rendezvous_steps.specs.Plan.{Plan, online_count}
use Rattle.ctl_words.specs.Places.{word_count}

-- where the revisions of the groups begin
abbrev pub first_revision : Plan → ℕ
first_revision plan = 3 + 3 * plan.threads

-- the word at a place: how many threads are to arrive, the groups' revisions, and else 0
abbrev pub opening_at : Plan → ℕ → ℕ
opening_at plan k =
    if k == 0 then online_count plan else
    if nat_le (first_revision plan) k && nat_lt k (first_revision plan + plan.groups)
    then plan.rev0 (k - first_revision plan)
    else 0

abbrev pub opening_row : Plan → List ℕ
opening_row plan = map (opening_at plan) (range_with_len 0 (word_count plan))
