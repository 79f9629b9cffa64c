-- What the sink in memory is seen as.
use Rattle.std.specs.Prelude.{◌≡◌, ◌-◌, ℕ, Bool, List, [], Option, length, take, nat_eq, false, if◌then◌else◌}
use Rattle.std.specs.Option.{option_map_or}
use Rattle.uc_io.specs.Faults.{one_more}
use Rattle.uc_io.specs.declared.memory_sink.MemSink.{MemSink}

-- the bytes that the sink took
abbrev pub taken_by : MemSink → List ℕ
taken_by sink = sink.taken.items

-- the sink stands for the bytes that it took, and for no other list
abbrev pub stands_for : MemSink → List ℕ → Type 0
stands_for sink taken = taken ≡ taken_by sink

-- how many bytes the sink can take in all
abbrev pub room_of : MemSink → ℕ
room_of sink = sink.room

-- how many writes failed
abbrev pub faults_of : MemSink → ℕ
faults_of sink = sink.faults

-- how many writes were made
abbrev pub writes_of : MemSink → ℕ
writes_of sink = sink.writes

-- the number of the write, counted from 1, that is to fail
abbrev pub failing_of : MemSink → Option ℕ
failing_of sink = sink.failing

-- whether the next write is to fail
abbrev pub is_to_fail : MemSink → Bool
is_to_fail sink = option_map_or (λ write. nat_eq write (one_more (writes_of sink))) (failing_of sink) false

-- what the next write takes of a piece: nothing where it is to fail, else what fits
abbrev pub part_of : MemSink → List ℕ → List ℕ
part_of sink piece = if is_to_fail sink then [] else take (room_of sink - length (taken_by sink)) piece

-- nothing differs but which write is to fail
pub record SameButFailing (old new : MemSink) : Type 0 where
  pub taken : taken_by new ≡ taken_by old
  pub room : room_of new ≡ room_of old
  pub writes : writes_of new ≡ writes_of old
  pub faults : faults_of new ≡ faults_of old
