-- What files in memory that may fail are seen as.
use Rattle.std.specs.Prelude.{◌≡◌, ℕ, Bool, List, [], Option, IsTrue, IsNone, ◌⊎◌}
use Rattle.std.specs.Option.{unwrap_or}
use Rattle.std.specs.Ordering.{nat_cmp}
use Rattle.std.specs.BTreeSet.{contains}
use Rattle.uc_io.specs.Faults.{one_more}
use Rattle.uc_io.specs.Contents.{bytes_under}
use Rattle.uc_io.specs.declared.memory_files.MemFiles.{MemFiles}

-- the bytes that were put under a name
abbrev pub put_under : MemFiles → List ℕ → Option (List ℕ)
put_under files = bytes_under files.contents

-- what a name holds: the bytes that were put under it, and none where it was not put
abbrev pub holds_of : MemFiles → List ℕ → List ℕ
holds_of files name = unwrap_or (put_under files name) []

-- what is left of the file that is open
abbrev pub left_of : MemFiles → List ℕ
left_of files = files.opened

-- how many calls failed
abbrev pub faults_of : MemFiles → ℕ
faults_of files = files.faults

-- how many calls of `read`, `open_file` and `next` were made
abbrev pub calls_of : MemFiles → ℕ
calls_of files = files.calls

-- the number of the next call
abbrev pub next_call : MemFiles → ℕ
next_call files = one_more (calls_of files)

-- whether the call with that number, counted from 1, is to fail
abbrev pub fails_at : MemFiles → ℕ → Bool
fails_at files call = contains nat_cmp files.failing call

-- the next call is to fail
abbrev pub IsToFail : MemFiles → Type 0
IsToFail files = IsTrue (fails_at files (next_call files))

-- the next call cannot give what the name holds
abbrev pub IsRefused : MemFiles → List ℕ → Type 0
IsRefused files name = IsToFail files ⊎ IsNone (put_under files name)

-- nothing differs but what was put
pub record SameButContents (old new : MemFiles) : Type 0 where
  pub left : left_of new ≡ left_of old
  pub faults : faults_of new ≡ faults_of old
  pub calls : calls_of new ≡ calls_of old
  pub failing : fails_at new ≡ fails_at old

-- nothing differs but which calls are to fail
pub record SameButFailing (old new : MemFiles) : Type 0 where
  pub contents : put_under new ≡ put_under old
  pub left : left_of new ≡ left_of old
  pub faults : faults_of new ≡ faults_of old
  pub calls : calls_of new ≡ calls_of old
