-- What a machine is made of, and the state that it is in. The tables are functions of thread and group numbers.
use Rattle.std.specs.Prelude.{ℕ, Bool, true, false, ◌==◌, if◌then◌else◌, List, length, filter, slice_index}
use Rattle.std.specs.List.{list_all, range_with_len}
use Rattle.uc_topology.specs.Stated.{Stated, group_count, group_facts, thread_groups}
use Rattle.machine_steps.specs.declared.states.Power.{Power}
use Rattle.machine_steps.specs.declared.states.Power.TheVariants.{Off, On, Asleep}
use Rattle.machine_steps.specs.declared.states.ThreadState.{ThreadState}
use Rattle.machine_steps.specs.declared.states.ThreadState.TheVariants.{Cold, Up, Offline}

-- what never changes: how many threads and groups there are, the group of each thread, and the revision that the
-- firmware loads into a group at each power-up
pub record Setting : Type 0 where
  pub threads : ℕ
  pub groups : ℕ
  pub group : ℕ → ℕ
  pub bios : ℕ → ℕ

-- the setting of the machine that a topology states
abbrev pub setting_of : Stated → Setting
setting_of stated =
    record {
      threads = length stated.threads;
      groups = group_count stated.cores;
      group = λ t. slice_index (thread_groups stated) t;
      bios = λ g. (group_facts stated.cores g).rev;
    }

-- the state: power, what each thread does, the threads to bring up at the next resume, the groups that refuse writes,
-- and the revision of each group
pub record Hardware : Type 0 where
  pub power : Power
  pub thread : ℕ → ThreadState
  pub remembered : ℕ → Bool
  pub refuses : ℕ → Bool
  pub rev : ℕ → ℕ

abbrev pub is_off : Power → Bool
is_off Off = true
is_off power = false

abbrev pub is_on : Power → Bool
is_on On = true
is_on power = false

abbrev pub is_asleep : Power → Bool
is_asleep Asleep = true
is_asleep power = false

abbrev pub is_cold : ThreadState → Bool
is_cold Cold = true
is_cold state = false

abbrev pub is_up : ThreadState → Bool
is_up Up = true
is_up state = false

abbrev pub is_offline : ThreadState → Bool
is_offline Offline = true
is_offline state = false

-- the machine before it is booted
abbrev pub switched_off : Setting → Hardware
switched_off setting =
    record {
      power = Off;
      thread = λ t. Cold;
      remembered = λ t. false;
      refuses = λ g. false;
      rev = setting.bios;
    }

-- the threads in ascending order, and those of a group
abbrev pub threads_of : Setting → List ℕ
threads_of setting = range_with_len 0 setting.threads

abbrev pub threads_in : Setting → ℕ → List ℕ
threads_in setting g = filter (λ t. setting.group t == g) (threads_of setting)

-- no thread of the group was up since power-up
unfoldable pub all_cold : Setting → Hardware → ℕ → Bool
all_cold setting hardware g = list_all (λ t. is_cold (hardware.thread t)) (threads_in setting g)

-- a table with one place changed
abbrev pub put : {A : Type 0} → (ℕ → A) → ℕ → A → ℕ → A
put table place value = λ k. if k == place then value else table k

abbrev pub with_power : Hardware → Power → Hardware
with_power hardware power = record hardware { power = power }

abbrev pub with_thread : Hardware → ℕ → ThreadState → Hardware
with_thread hardware t state = record hardware { thread = put hardware.thread t state }

abbrev pub with_refusal : Hardware → ℕ → Bool → Hardware
with_refusal hardware g on = record hardware { refuses = put hardware.refuses g on }

abbrev pub with_rev : Hardware → ℕ → ℕ → Hardware
with_rev hardware g rev = record hardware { rev = put hardware.rev g rev }

-- the machine asleep: the threads that were up are remembered, all are cold, and each group is at the firmware's
-- revision
abbrev pub suspended : Setting → Hardware → Hardware
suspended setting hardware =
    record {
      power = Asleep;
      thread = λ t. Cold;
      remembered = λ t. is_up (hardware.thread t);
      refuses = hardware.refuses;
      rev = setting.bios;
    }
