-- Which state of the model the words and the threads' states stand for.
use Rattle.std.specs.Prelude.{◌≡◌, ℕ, ◌-◌, ◌≤◌, Bool, true, false, ◌&&◌, ◌||◌, not, ◌==◌, nat_le, if◌then◌else◌}
use Rattle.rendezvous_steps.specs.declared.steps.Kind.{Kind}
use Rattle.rendezvous_steps.specs.declared.steps.Kind.TheVariants.{Online, Offline, Absent as KindAbsent}
use Rattle.rendezvous_steps.specs.declared.steps.Local.{Local}
use Rattle.rendezvous_steps.specs.Plan.{Plan}
use Rattle.rendezvous_steps.specs.Words.{Families, families}
use Rattle.rendezvous_steps.specs.StepTable.{result_of}
use Rattle.rendezvous_steps.specs.Events.{Running}
use Rattle.rendezvous_rule.specs.Facets.{past_arriving, has_counted, is_deciding, is_writing, past_writing}
use Rattle.rendezvous_model.specs.Round.{Place, Out, In, Left, Halted, Withdrawn, Absent, Stage, Gathering, Going}
use Rattle.rendezvous_model.specs.Round.{DroppedByKick, DroppedBy, GroupPlace, Waiting, Writing, Written, Reported}
use Rattle.rendezvous_model.specs.Round.{State, still_awaited, offline_arrived}
use Rattle.rendezvous_rule.specs.Awaited.{awaited}

-- where a thread is that has neither halted nor left, by its kind, its mode and its kick
abbrev pub place_before_end : Kind → ℕ → ℕ → Place
place_before_end Online mode nmi = if (mode == 1) || (mode == 2) then In else Out
place_before_end Offline mode nmi = if nmi == 2 then In else if nmi == 3 then Withdrawn else Out
place_before_end KindAbsent mode nmi = Absent

abbrev pub place_of : Kind → ℕ → ℕ → ℕ → Place
place_of kind mode ctrl nmi =
    if ctrl == 3 then Halted else
    if nat_le 8 mode then Left (result_of (mode - 8)) else place_before_end kind mode nmi

-- an Online thread other than 0 and an Offline thread have arrived by their phase. Thread 0 has where Arrive is just
-- the number of the other Online threads that have not
abbrev pub arrived_of : Kind → Bool → Bool → Local → Bool
arrived_of Online true zero_arrived local = zero_arrived
arrived_of Online false zero_arrived local = past_arriving local.phase
arrived_of Offline is_zero zero_arrived local = has_counted local.phase
arrived_of KindAbsent is_zero zero_arrived local = false

abbrev pub stage_of : ℕ → Stage
stage_of decide =
    if decide == 0 then Gathering else
    if decide == 1 then Going else if decide == 2 then DroppedByKick else DroppedBy (decide - 3)

-- by the result that was reported, and by the primary's mode and state
abbrev pub group_of : ℕ → ℕ → Local → GroupPlace
group_of res mode local =
    if not (res == 0) then Reported (result_of res) else
    if (mode == 2) && is_writing local.phase then Writing else
    if (mode == 2) && past_writing local then Written else Waiting

abbrev pub shown : Plan → Families → (ℕ → Local) → (ℕ → Bool) → State
shown plan words locals latched =
    record {
      place = λ u. place_of (plan.kind u) (words.mode u) (words.ctrl u) (words.nmi u);
      kicked = λ u. not (words.nmi u == 0);
      arrived = λ u. arrived_of (plan.kind u) (u == 0) (words.arrive == awaited plan locals) (locals u);
      freed = λ u. (words.ctrl u == 1) || (words.ctrl u == 2);
      latched = latched;
      stage = stage_of words.decide;
      is_decider = λ u. (words.decide == 0) && is_deciding (locals u).phase;
      group = λ g. group_of (words.res g) (words.mode (plan.primary g)) (locals (plan.primary g));
      revision = words.rev;
    }

abbrev pub shown_by : Plan → Running → State
shown_by plan running = shown plan (families running.words) running.locals running.latched

-- They stand for this state. Where the counts are not those of the state, or two threads are to decide, or the decision
-- is no thread's, they stand for none.
pub record Shows
    (plan : Plan) (words : Families) (locals : ℕ → Local) (latched : ℕ → Bool) (state : State) : Type 0 where
  pub stands_for : state ≡ shown plan words locals latched
  pub arrive : words.arrive ≡ still_awaited plan state.arrived
  pub off_in : words.off_in ≡ offline_arrived plan state.arrived
  pub one_decider : (u v : ℕ) → state.is_decider u ≡ true → state.is_decider v ≡ true → u ≡ v
  pub decided_by_online : 3 ≤ words.decide → plan.kind (words.decide - 3) ≡ Online
