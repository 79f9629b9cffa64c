use Rattle.std.proofs.Common.{◌≡◌, ◌++◌}
use Rattle.uc_gen.specs.Texts.{thread_lines}
use Rattle.uc_gen.proofs.texts.push_threads.Given as goal

abbrev pub invariant-threads : goal.invariant-threads
invariant-threads l = l.bytes.items ≡ l.initial.bytes.items ++ thread_lines l.thread
