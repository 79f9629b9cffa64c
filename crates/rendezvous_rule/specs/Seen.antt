-- The state of the model that the threads' views make, and the words that a state of the model makes. Names for what a
-- word's values mean stand beside each.
use Rattle.std.specs.Prelude.{ℕ, ◌+◌, Bool, true, false, ◌&&◌, ◌||◌, if◌then◌else◌}
use Rattle.rendezvous_steps.specs.declared.steps.Kind.{Kind}
use Rattle.rendezvous_steps.specs.declared.steps.Kind.TheVariants.{Online, Offline}
use Rattle.rendezvous_steps.specs.declared.steps.ThreadResult.TheVariants as results
use Rattle.rendezvous_steps.specs.Plan.{Plan, is_primary}
use Rattle.rendezvous_steps.specs.Words.{Families}
use Rattle.rendezvous_steps.specs.StepTable.{number_of, write_of}
use Rattle.rendezvous_model.specs.Round.{Place, Out, In, Left, Halted, Withdrawn, Stage, GroupPlace, Waiting, Writing}
use Rattle.rendezvous_model.specs.Round.{Written, Reported, State, is_gathering, still_awaited, offline_arrived}
use Rattle.rendezvous_model.specs.Outcome.{decide_of}
use Rattle.rendezvous_rule.specs.View.{Views}

-- From views to a state.

-- a thread that was not there when thread 0 was done with it is withdrawn
abbrev pub place_seen : Place → Bool → Place
place_seen Out true = Withdrawn
place_seen place settled = place

-- a thread was freed that its primary is past, or that came and thread 0 is done with. Who has halted was not
abbrev pub freed_seen : Place → Bool → Bool → Bool
freed_seen Halted by_primary by_zero = false
freed_seen In by_primary by_zero = by_primary || by_zero
freed_seen (Left result) by_primary by_zero = by_primary || by_zero
freed_seen place by_primary by_zero = by_primary

-- the revision of a group whose write has come so far
abbrev pub revision_in : Plan → ℕ → GroupPlace → ℕ
revision_in plan g Waiting = plan.rev0 g
revision_in plan g Writing = plan.rev0 g
revision_in plan g place = write_of plan g

abbrev pub seen : Plan → Views → Stage → (ℕ → Bool) → State
seen plan views stage latched =
    record {
      place = λ u. place_seen (views.place u) (views.settles 0 u);
      kicked = views.kicks 0;
      arrived = views.arrived;
      freed = λ u. freed_seen (views.place u) (views.frees (plan.primary (plan.group u)) u) (views.settles 0 u);
      latched = latched;
      stage = stage;
      is_decider = λ u. is_gathering stage && views.deciding u;
      group = λ g. views.write (plan.primary g);
      revision = λ g. revision_in plan g (views.write (plan.primary g));
    }

-- From a state to the words.

-- Mode: outside, inside, inside and writing, or left with a result.

abbrev pub mode_outside : ℕ
mode_outside = 0

abbrev pub mode_inside : ℕ
mode_inside = 1

abbrev pub mode_writing : ℕ
mode_writing = 2

abbrev pub mode_left : ℕ → ℕ
mode_left number = 8 + number

-- a group's primary said that it writes
abbrev pub has_begun : GroupPlace → Bool
has_begun Writing = true
has_begun Written = true
has_begun (Reported results.Updated) = true
has_begun (Reported results.Error) = true
has_begun place = false

-- an Offline thread says only that it left
abbrev pub mode_code : Kind → Bool → Place → ℕ
mode_code Online writes Out = mode_outside
mode_code Online writes (Left result) = mode_left (number_of result)
mode_code Online writes place = if writes then mode_writing else mode_inside
mode_code Offline writes (Left result) = mode_left (number_of result)
mode_code kind writes place = mode_outside

-- Ctrl: wait, leave with the group's offer, leave with what the group reported, or halted.

abbrev pub tells_wait : ℕ
tells_wait = 0

abbrev pub tells_apply : ℕ
tells_apply = 1

abbrev pub tells_done : ℕ
tells_done = 2

abbrev pub tells_halted : ℕ
tells_halted = 3

abbrev pub release_code : GroupPlace → ℕ
release_code (Reported results.Updated) = tells_apply
release_code place = tells_done

abbrev pub ctrl_code : Place → Bool → GroupPlace → ℕ
ctrl_code Halted freed group = tells_halted
ctrl_code place freed group = if freed then release_code group else tells_wait

-- Nmi: not kicked, kicked, taken, or taken back.

abbrev pub kick_none : ℕ
kick_none = 0

abbrev pub kick_stands : ℕ
kick_stands = 1

abbrev pub kick_taken : ℕ
kick_taken = 2

abbrev pub kick_withdrawn : ℕ
kick_withdrawn = 3

abbrev pub nmi_code : Kind → Bool → Place → ℕ
nmi_code Offline false place = kick_none
nmi_code Offline true Out = kick_stands
nmi_code Offline true Withdrawn = kick_withdrawn
nmi_code Offline true place = kick_taken
nmi_code kind kicked place = kick_none

-- Res: the number of what was reported, or none.

abbrev pub res_code : GroupPlace → ℕ
res_code (Reported result) = number_of result
res_code place = 0

-- t is the primary of a group whose write it has begun
abbrev pub writes_now : Plan → ℕ → (ℕ → GroupPlace) → Bool
writes_now plan t group = is_primary plan t && has_begun (group (plan.group t))

unfoldable pub words_of : Plan → State → Families
words_of plan s =
    record {
      arrive = still_awaited plan s.arrived;
      off_in = offline_arrived plan s.arrived;
      decide = decide_of s.stage;
      mode = λ t. mode_code (plan.kind t) (writes_now plan t s.group) (s.place t);
      ctrl = λ t. ctrl_code (s.place t) (s.freed t) (s.group (plan.group t));
      nmi = λ k. nmi_code (plan.kind k) (s.kicked k) (s.place k);
      rev = s.revision;
      res = λ g. res_code (s.group g);
    }
