use Rattle.std.proofs.Common.{◌≡◌, ℕ, ◌+◌, ◌-◌, ◌≤◌, List, ◌++◌, length, take, drop, Option, Ok, sym, ◌∙◌, ap, subst, arith, length-append, length-drop, length-take}
use Rattle.std.proofs.lemmas.Slice.{between_to_end}
use Rattle.uc_bytes.specs.declared.causes.FileFault.{FileFault}
use Rattle.intel_format.specs.Settled.{IsSettled}
use Rattle.intel_file.specs.Stream.{Lists, IsWalked}
use Rattle.intel_file.proofs.Pieces.{kept_through, come_on, settled_in_piece}
use Rattle.intel_file.proofs.stream.walk_piece.Goals as goal

pub walk-preserved : goal.walk-preserved
walk-preserved c =
    let piece = c.args.piece.now in
    let at = c.walk.at in
    let n = c.take-took.result.len in
    let tail : take (length piece - at) (drop at piece) ≡ drop at piece = between_to_end piece at (length piece) (omega arith) in
    let within : at + n ≤ length piece = omega (arith, c.take-took.ensures.within, ap length tail, length-drop at piece, c.walk-test.true) in
    let new = c.list_update.new.updates.items in
    let counted : c.walk.updates.len ≡ length c.walk.updates.items = omega (arith, c.walk.updates.ok.0) in
    let later : take (length c.walk.updates.items) new ≡ c.walk.updates.items = subst (λ (k : ℕ). take k new ≡ c.walk.updates.items) counted c.list_update.ensures.kept in
    record {
      within = within;
      kept = kept_through c.args.updates.now.items c.walk.updates.items new c.walk.invariant.kept later;
      walked = λ bytes lists short.
          let before = c.walk.invariant.walked bytes lists short in
          let taken = c.take-took.ensures.took (bytes ++ take at piece) before.updates before.pairs before.stands (omega (arith, short, ap length tail, length-drop at piece, length-append bytes (take at piece), length-take at piece)) in
          let came = c.in-Ok-None.ensures.listed c.take-took.new.self _ before.updates _ (sym c.header.ensures) taken before.lists in
          let walked = subst (λ (found : Option FileFault). IsWalked ((bytes ++ take at piece) ++ take n (take (length piece - at) (drop at piece))) c.take-took.new.self c.list_update.new.updates.items (Ok found)) c.in-Ok-None.field-0-is came in
          subst (λ (l : List ℕ). Lists c.take-took.new.self c.list_update.new.updates.items l) (ap (λ (l : List ℕ). (bytes ++ take at piece) ++ take n l) tail ∙ come_on bytes piece at n) walked;
    }

pub returns-in-Ok-Some-clause-walked : goal.returns-in-Ok-Some-clause-walked
returns-in-Ok-Some-clause-walked c = λ bytes lists short.
    let piece = c.args.piece.now in
    let at = c.walk.at in
    let n = c.take-took.result.len in
    let tail : take (length piece - at) (drop at piece) ≡ drop at piece = between_to_end piece at (length piece) (omega arith) in
    let before = c.walk.invariant.walked bytes lists short in
    let taken = c.take-took.ensures.took (bytes ++ take at piece) before.updates before.pairs before.stands (omega (arith, short, ap length tail, length-drop at piece, length-append bytes (take at piece), length-take at piece)) in
    let came = c.in-Ok-Some.ensures.listed c.take-took.new.self _ before.updates _ (sym c.header.ensures) taken before.lists in
    let settled = subst (λ (found : Option FileFault). IsWalked ((bytes ++ take at piece) ++ take n (take (length piece - at) (drop at piece))) c.take-took.new.self c.list_update.new.updates.items (Ok found)) c.in-Ok-Some.field-0-is came in
    settled_in_piece bytes piece at n c.in-Ok-Some.fault.offset c.in-Ok-Some.fault.cause
    (subst (λ (l : List ℕ). IsSettled ((bytes ++ take at piece) ++ take n l) c.in-Ok-Some.fault.offset c.in-Ok-Some.fault.cause) tail settled)
