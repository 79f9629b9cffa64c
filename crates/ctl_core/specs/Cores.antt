-- What a core is seen as: its plan, the moment that it stands at, and how many items so far count.
use Rattle.std.specs.Prelude.{ℕ, not, ◌&&◌, Option}
use Rattle.std.specs.List.{find}
use Rattle.rendezvous_steps.specs.declared.steps.How.TheVariants.{Step}
use Rattle.rendezvous_steps.specs.Plan.{Plan, threads_from}
use Rattle.rendezvous_steps.specs.Events.{Running, steps}
use Rattle.rendezvous_model.specs.Round.{State, is_unfinished}
use Rattle.rendezvous_rule.specs.Shown.{shown_by}
use Rattle.play_laws.specs.Lawful.{Lawful}
use Rattle.ctl_words.specs.Plans.{plan_of}
use Rattle.ctl_core.specs.Moments.{running_of, is_poll}
use Rattle.ctl_core.specs.declared.cores.Core.{Core}

abbrev pub plan_in : Core → Plan
plan_in core = plan_of core.plan.now

abbrev pub moment_in : Core → Running
moment_in core = running_of core.moment

-- the state of the model that its moment shows
abbrev pub state_in : Core → State
state_in core = shown_by (plan_in core) (moment_in core)

-- its moment meets the rule between steps, and an NMI is latched only for a thread that came into the handler
abbrev pub IsLawful : Core → Type 0
IsLawful core = Lawful (plan_in core) (moment_in core)

-- how many items so far were none of Poll, Idle, Latched and Ordinary
abbrev pub spent_in : Core → ℕ
spent_in core = core.spent

-- the lowest thread that is unfinished
abbrev pub lowest_unfinished : Plan → State → Option ℕ
lowest_unfinished plan state = find (λ t. is_unfinished (state.place t)) (threads_from plan 0)

-- the lowest unfinished thread whose next step is no Poll
abbrev pub lowest_ready : Plan → Running → Option ℕ
lowest_ready plan moment =
    find (λ t. is_unfinished ((shown_by plan moment).place t) && not (is_poll (steps plan t Step moment).1))
    (threads_from plan 0)
