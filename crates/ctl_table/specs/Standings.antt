-- What the table knows of a post, and what steps, splits and joins leave of that.
use Rattle.std.specs.Prelude.{◌≡◌, ℕ, ◌+◌, min, Bool, true, false, ◌||◌, List, [], ◌∷◌}
use Rattle.rendezvous_steps.specs.declared.steps.How.{How}
use Rattle.rendezvous_steps.specs.declared.steps.How.TheVariants as how
use Rattle.rendezvous_steps.specs.StepTable.{opening, after}
use Rattle.ctl_words.specs.declared.plans.Plan.{Plan as Tables}
use Rattle.ctl_words.specs.Plans.{plan_of}
use Rattle.atomic_table.specs.Table.{Me, Step}
use Rattle.ctl_table.specs.declared.standings.Standing.{Standing}
use Rattle.ctl_table.specs.declared.standings.View.{View}
use Rattle.ctl_table.specs.declared.standings.View.TheVariants.{Spent, Sits}

-- where a thread stands when the rendezvous begins
abbrev pub opening_standing : Tables → ℕ → Standing
opening_standing plan t =
    record { plan = plan; thread = t; local = opening (plan_of plan) t; given = 0; joined = 0; late = false }

abbrev pub opening_view : Tables → View
opening_view plan = Sits (opening_standing plan 0)

-- A step.

-- a timeout makes its post late
abbrev pub makes_late : How → Bool
makes_late how.Timeout = true
makes_late h = false

-- where the thread stands once it has found this
abbrev pub moved : How → Standing → ℕ → Standing
moved h v found =
    record v { local = (after (plan_of v.plan) v.thread v.local h found).0; late = v.late || makes_late h }

abbrev pub moved_view : How → View → ℕ → View
moved_view h Spent found = Spent
moved_view h (Sits v) found = Sits (moved h v found)

-- a step tells its thread that it moved so
abbrev pub turned : How → Step (Unit {0}) → Me (Unit {0}) View → ℕ → Me (Unit {0}) View → Type 0
turned h step before found after' = after' ≡ (moved_view h before.0 found, before.1)

-- A split: the post of the next thread, from thread 0's.

abbrev pub gave : Standing → Standing
gave v = record v { given = v.given + 1 }

abbrev pub left_of : View → View
left_of Spent = Spent
left_of (Sits v) = Sits (gave v)

abbrev pub right_of : View → View
right_of Spent = Spent
right_of (Sits v) = Sits (opening_standing v.plan (v.given + 1))

-- A join. A count of posts has 16 bits, which no bay's posts fill.

abbrev pub one_more : ℕ → ℕ
one_more n = min (n + 1) 65535

abbrev pub took : Standing → Standing → Standing
took v w = record v { joined = one_more v.joined; late = v.late || w.late }

abbrev pub joined_view : View → View → View
joined_view (Sits v) (Sits w) = Sits (took v w)
joined_view Spent w = Spent
joined_view (Sits v) Spent = Sits v

-- how many posts were joined
abbrev pub spent_count : List View → ℕ
spent_count [] = 0
spent_count (Spent ∷ views) = spent_count views + 1
spent_count (Sits v ∷ views) = spent_count views
