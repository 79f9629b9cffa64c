use Rattle.std.proofs.Common.{◌≡◌, ◌++◌, [], arith, sym, take, drop, take-append-drop, refl}
use Rattle.std.proofs.lemmas.Grind.{common_steps}
use Rattle.uc_io.proofs.memory_sink.MemSinkSink.write.Goals as goal

-- a write that is to fail takes the empty front of its piece
pub returns-then-begins_to_fail-clause-writes : goal.returns-then-begins_to_fail-clause-writes
returns-then-begins_to_fail-clause-writes c =
    record {
      later = grind arith;
      still = tt;
      outcome = (
        record {
          front = [];
          rest = c.args.piece.now;
          split = refl;
          grew = record { each = λ taken before. grind (arith, common_steps, before) };
        },
        grind arith,
      );
    }

-- a piece that does not fit is cut
pub returns-then-fitting-piece-clause-writes : goal.returns-then-fitting-piece-clause-writes
returns-then-fitting-piece-clause-writes c =
    let front = take c.min-fitting.result c.args.piece.now in
    let took : c.extend_from_slice.new.self.items ≡ c.args.self.now.taken.items ++ front = grind (arith, common_steps) in
    record {
      later = grind arith;
      still = tt;
      outcome = (
        record {
          front = front;
          rest = drop c.min-fitting.result c.args.piece.now;
          split = sym (take-append-drop c.min-fitting.result c.args.piece.now);
          grew = record { each = λ taken before. grind (arith, took, before) };
        },
        grind arith,
      );
    }
