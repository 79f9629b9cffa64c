-- What a step of the model changes, item by item.
use Rattle.std.proofs.Common.{◌≡◌, ℕ, true, false}
use Rattle.rendezvous_steps.specs.declared.items.What.{What}
use Rattle.rendezvous_steps.specs.declared.items.What.TheVariants as what
use Rattle.rendezvous_steps.specs.Plan.{Plan}
use Rattle.rendezvous_steps.specs.Events.{put}
use Rattle.rendezvous_model.specs.Round.{State, Cause, In, Left, Halted, Withdrawn, Writing, Written, Reported, Going, DroppedByKick, DroppedBy, nobody}
use Rattle.rendezvous_model.specs.RoundItems.{decider_after}
use Rattle.rendezvous_model.specs.RoundStep.{RoundBy}

-- the state after an item of t
abbrev pub change : Plan → ℕ → What → State → State
change plan t what.Enter s = record s { place = put s.place t In }
change plan t (what.Kick k) s = record s { kicked = put s.kicked k true }
change plan t what.Arrive s =
    record s { arrived = put s.arrived t true; is_decider = decider_after plan t s (put s.arrived t true) }
change plan t what.Go s = record s { stage = Going; is_decider = nobody }
change plan t what.Drop s = record s { stage = DroppedBy t; is_decider = nobody }
change plan t what.DropKick s = record s { stage = DroppedByKick }
change plan t (what.Withdraw k) s = record s { place = put s.place k Withdrawn }
change plan t (what.Begin g) s = record s { group = put s.group g Writing }
change plan t (what.Wrote g r) s = record s { group = put s.group g Written; revision = put s.revision g r }
change plan t (what.Report g x) s = record s { group = put s.group g (Reported x) }
change plan t (what.Free u) s = record s { freed = put s.freed u true }
change plan t (what.Leave x) s = record s { place = put s.place t (Left x) }
change plan t what.Halt s = record s { place = put s.place t Halted }
change plan t what.Ordinary s = record s { latched = put s.latched t false }
change plan t what.Poll s = s
change plan t what.Inner s = s
change plan t what.Latched s = record s { latched = put s.latched t true }
change plan t what.Idle s = s

pub changed :
    (plan : Plan) (t : ℕ) (cause : Cause) (s : State) (item : What) (s' : State) →
    RoundBy plan t cause s item s' → s' ≡ change plan t item s
changed plan t cause s what.Enter s' by = by.change
changed plan t cause s (what.Kick k) s' by = by.1.change
changed plan t cause s what.Arrive s' by = by.1.change
changed plan t cause s what.Go s' by = by.1.change
changed plan t cause s what.Drop s' by = by.change
changed plan t cause s what.DropKick s' by = by.change
changed plan t cause s (what.Withdraw k) s' by = by.1.change
changed plan t cause s (what.Begin g) s' by = by.1.change
changed plan t cause s (what.Wrote g r) s' by = by.1.change
changed plan t cause s (what.Report g x) s' by = by.1.change
changed plan t cause s (what.Free u) s' by = by.1.change
changed plan t cause s (what.Leave x) s' by = by.1.change
changed plan t cause s what.Halt s' by = by.change
changed plan t cause s what.Ordinary s' by = by.change
changed plan t cause s what.Poll s' by = by.1.change
changed plan t cause s what.Inner s' by = by.1.change
changed plan t cause s what.Latched s' by = by.change
changed plan t cause s what.Idle s' by = by.change
