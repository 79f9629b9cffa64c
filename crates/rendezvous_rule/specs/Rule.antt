-- What holds of the words and the threads' states between any two steps: the words are those of the state that the
-- threads' views make, that state has gathered as it should, and each thread knows what its phase says.
use Rattle.std.specs.Prelude.{◌≡◌, ℕ, ◌<◌, Bool, true}
use Rattle.rendezvous_steps.specs.declared.steps.Kind.TheVariants.{Online}
use Rattle.rendezvous_steps.specs.declared.steps.Local.{Local}
use Rattle.rendezvous_steps.specs.Plan.{Plan, online_count, offline_count}
use Rattle.rendezvous_steps.specs.Words.{Families}
use Rattle.rendezvous_model.specs.Round.{Stage, Gathering, Going, DroppedByKick, DroppedBy, nobody}
use Rattle.rendezvous_rule.specs.View.{views}
use Rattle.rendezvous_rule.specs.Seen.{seen, words_of}
use Rattle.rendezvous_rule.specs.Knows.{AllHere, Knows}

-- every Online thread has arrived
abbrev pub AllOnlineHere : Plan → (ℕ → Bool) → Type 0
AllOnlineHere plan arrived = (t : ℕ) → plan.kind t ≡ Online → arrived t ≡ true

-- who has arrived, what is decided, and who is to decide, by the model alone
pub record Gathered (plan : Plan) (arrived : ℕ → Bool) (stage : Stage) (is_decider : ℕ → Bool) : Type 0 where
  -- thread 0 arrives after every Offline thread
  pub zero_last : arrived 0 ≡ true → AllHere plan arrived
  -- who arrived last of the Online threads decides, and nobody else
  pub decides_last : (t : ℕ) → is_decider t ≡ true → AllOnlineHere plan arrived
  pub one_decides : (t u : ℕ) → is_decider t ≡ true → is_decider u ≡ true → t ≡ u
  pub somebody_decides : stage ≡ Gathering → AllOnlineHere plan arrived → (t : ℕ) × (is_decider t ≡ true)
  pub go_after_all : stage ≡ Going → AllOnlineHere plan arrived
  pub kick_dropped : stage ≡ DroppedByKick → 0 < offline_count plan
  pub dropped_by_online : (t : ℕ) → stage ≡ DroppedBy t → plan.kind t ≡ Online
  -- where thread 0 dropped by its own exchange it had arrived, and another Online thread is there
  pub zero_dropped : stage ≡ DroppedBy 0 → (arrived 0 ≡ true) × (1 < online_count plan)

-- The rule at a stage, where it is given whether thread 0 had arrived before it took the drop path.
pub record RuleBy (plan : Plan) (words : Families) (locals : ℕ → Local) (first : Bool) (stage : Stage) : Type 0 where
  pub says : words ≡ words_of plan (seen plan (views plan first locals) stage nobody)
  pub gathered :
      let s = seen plan (views plan first locals) stage nobody in Gathered plan s.arrived stage s.is_decider
  pub knows : (t : ℕ) → Knows (plan.kind t) plan t (locals t) (seen plan (views plan first locals) stage nobody)

pub record Rule (plan : Plan) (words : Families) (locals : ℕ → Local) : Type 0 where
  pub first : Bool
  pub stage : Stage
  pub by : RuleBy plan words locals first stage
