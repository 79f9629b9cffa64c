-- What a topology states: who makes its processors, the cores with their packages and facts, and the core of each
-- thread. Threads and cores are numbered from 0 in the order of their lines.
use Rattle.std.specs.Prelude.{ℕ, ◌≡◌, ◌<◌, ◌≤◌, List, [], ◌∷◌, ◌++◌, length, map, slice_index, slice_index_or, ◌==◌, if◌then◌else◌}
use Rattle.std.specs.List.{All, list_any, fold, position_or_len, range_with_len}
use Rattle.uc_bytes.specs.declared.causes.Vendor.{Vendor}
use Rattle.uc_topology.specs.declared.tables.Core.{Core}
use Rattle.uc_topology.specs.declared.tables.GroupFacts.{GroupFacts}

-- the cores, and the core of each thread
pub record Stated : Type 0 where
  pub cores : List Core
  pub threads : List ℕ

pub record Machine : Type 0 where
  pub vendor : Vendor
  pub stated : Stated

abbrev pub group_of : Core → ℕ
group_of core = core.group

-- numbers, each where it first stands
abbrev pub with_new : List ℕ → ℕ → List ℕ
with_new seen number = if list_any (λ other. other == number) seen then seen else seen ++ number ∷ []

-- the different groups of cores, in the order in which they first stand
unfoldable pub groups_of : List Core → List ℕ
groups_of cores = fold with_new [] (map group_of cores)

abbrev pub group_count : List Core → ℕ
group_count cores = length (groups_of cores)

abbrev pub no_core : Core
no_core = record { group = 0; facts = record { sig = 0; flags = 0; rev = 0 } }

-- a core by its number
abbrev pub core_at : List Core → ℕ → Core
core_at cores number = slice_index_or cores number no_core

-- the first core of a group
abbrev pub first_core : List Core → ℕ → ℕ
first_core cores group = position_or_len (λ core. group_of core == group) cores

-- the facts of a group are those of its first core
abbrev pub group_facts : List Core → ℕ → GroupFacts
group_facts cores group = (core_at cores (first_core cores group)).facts

-- the lowest thread of a core
abbrev pub lead : Stated → ℕ → ℕ
lead stated core = position_or_len (λ other. other == core) stated.threads

-- the groups of the threads
abbrev pub thread_groups : Stated → List ℕ
thread_groups stated = map (λ core. group_of (core_at stated.cores core)) stated.threads

-- the lowest thread of a group
abbrev pub primary : Stated → ℕ → ℕ
primary stated group = position_or_len (λ other. other == group) (thread_groups stated)

-- each thread is on one core and each core in one group; no group is empty, and the cores of a group agree
pub record AreGroups (stated : Stated) : Type 0 where
  pub threads_fit : length stated.threads ≤ 256
  pub cores_fit : length stated.cores ≤ 256
  pub on_cores : All (λ core. core < length stated.cores) stated.threads
  pub in_groups : All (λ core. core.group < group_count stated.cores) stated.cores
  pub has_core : (group : ℕ) → group < group_count stated.cores → first_core stated.cores group < length stated.cores
  pub agree : (core : ℕ) → core < length stated.cores → (core_at stated.cores core).facts ≡ group_facts stated.cores (core_at stated.cores core).group

-- the cores are a partition of the threads, and the groups one of the cores
pub record IsPartition (stated : Stated) : Type 0 where
  pub groups : AreGroups stated
  pub some_thread : 0 < length stated.threads
  pub has_thread : (core : ℕ) → core < length stated.cores → lead stated core < length stated.threads
  pub has_primary : (group : ℕ) → group < group_count stated.cores → primary stated group < length stated.threads

-- what the tables of a reader keep: the group of each thread, and the first core of each group
pub record AreTables (cores : List Core) (threads thread_groups firsts : List ℕ) : Type 0 where
  pub cores_fit : length cores ≤ 256
  pub threads_fit : length threads ≤ 256
  pub groups : thread_groups ≡ map (λ core. group_of (core_at cores core)) threads
  pub on_cores : All (λ core. core < length cores) threads
  pub fewer : length firsts ≤ length cores
  pub count : group_count cores ≡ length firsts
  pub different : groups_of cores ≡ range_with_len 0 (length firsts)
  pub in_groups : All (λ core. core.group < length firsts) cores
  pub first : (group : ℕ) → group < length firsts → slice_index firsts group ≡ first_core cores group
  pub first_in : (group : ℕ) → group < length firsts → slice_index firsts group < length cores
  pub agree : (core : ℕ) → core < length cores → (core_at cores core).facts ≡ group_facts cores (core_at cores core).group
