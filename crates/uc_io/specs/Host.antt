-- What is known of the host's files and of standard output: how often they failed, what is left of the file that is open,
-- and what is not handed on yet.
use Rattle.std.specs.Prelude.{◌≡◌, ℕ, List, [], ◌++◌, Option, Some, IsSomeAnd}
use Rattle.std.specs.Option.{option_map_or}
use Rattle.uc_io.specs.declared.host_files.HostFiles.{HostFiles}
use Rattle.uc_io.specs.declared.out_sink.OutSink.{OutSink}

-- how many calls of the files failed
abbrev pub failed_reads_of : {R F D : Type 0} → HostFiles R F D → ℕ
failed_reads_of files = files.faults

-- what is left of the file that is open, where it tells; nothing where none is open
abbrev pub left_in : {R F D : Type 0} → (F → Option (List ℕ)) → HostFiles R F D → Option (List ℕ)
left_in remaining files = option_map_or remaining files.opened (Some [])

-- how many writes failed
abbrev pub failed_writes_of : {W : Type 0} → OutSink W → ℕ
failed_writes_of sink = sink.faults

-- the bytes that were taken and not handed on
abbrev pub held_by : {W : Type 0} → OutSink W → List ℕ
held_by sink = sink.held.items

-- where the sink writes to
abbrev pub writer_of : {W : Type 0} → OutSink W → W
writer_of sink = sink.to

-- the sink stands for what its writer holds and, behind it, what is held; for no list where the writer does not tell
abbrev pub StandsFor : {W : Type 0} → (W → Option (List ℕ)) → OutSink W → List ℕ → Type 0
StandsFor contents sink taken = IsSomeAnd (contents (writer_of sink)) (λ written. taken ≡ written ++ held_by sink)
