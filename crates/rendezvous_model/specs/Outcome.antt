-- What is left of a rendezvous: the decision, each thread's end and each group's revision.
use Rattle.std.specs.Prelude.{◌≡◌, ℕ, ◌+◌, List, map}
use Rattle.std.specs.List.{range_with_len}
use Rattle.rendezvous_steps.specs.declared.ends.End.{End}
use Rattle.rendezvous_steps.specs.declared.ends.End.TheVariants as ends
use Rattle.rendezvous_steps.specs.Plan.{Plan, threads_from}
use Rattle.rendezvous_model.specs.Round.{Place, Out, In, Left, Halted, Withdrawn, Absent, Stage, Gathering, Going}
use Rattle.rendezvous_model.specs.Round.{DroppedByKick, DroppedBy, State}

pub record Outcome : Type 0 where
  pub decide : ℕ
  pub ends : List End
  pub revs : List ℕ

abbrev pub end_of : Place → End
end_of Out = ends.Unfinished
end_of In = ends.Unfinished
end_of (Left result) = ends.Left result
end_of Halted = ends.Halted
end_of Withdrawn = ends.Withdrawn
end_of Absent = ends.Absent

abbrev pub decide_of : Stage → ℕ
decide_of Gathering = 0
decide_of Going = 1
decide_of DroppedByKick = 2
decide_of (DroppedBy t) = 3 + t

-- The outcome is that of this state.
pub record OutcomeShows (plan : Plan) (outcome : Outcome) (state : State) : Type 0 where
  pub decide : outcome.decide ≡ decide_of state.stage
  pub ends : outcome.ends ≡ map (λ t. end_of (state.place t)) (threads_from plan 0)
  pub revs : outcome.revs ≡ map state.revision (range_with_len 0 plan.groups)
