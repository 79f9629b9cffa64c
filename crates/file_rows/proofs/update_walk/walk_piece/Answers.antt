use Rattle.std.proofs.Common.{◌≡◌, ℕ, ◌+◌, ◌-◌, ◌≤◌, List, ◌++◌, length, take, drop, Option, sym, ◌∙◌, ap, subst, arith, length-append, length-drop, length-take}
use Rattle.std.proofs.lemmas.Slice.{between_to_end}
use Rattle.uc_bytes.specs.declared.causes.FileFault.{FileFault}
use Rattle.intel_format.specs.Settled.{IsSettled}
use Rattle.intel_format.proofs.Settled.{settled_stays}
use Rattle.file_rows.specs.UpdateWalk.{Lists, IsKept}
use Rattle.file_rows.proofs.Pieces.{kept_through, come_on, all_come}
use Rattle.file_rows.proofs.update_walk.walk_piece.Goals as goal

pub walk-preserved : goal.walk-preserved
walk-preserved c =
    let piece = c.args.piece.now in
    let at = c.walk.at in
    let n = c.take-took.result.len in
    let tail : take (length piece - at) (drop at piece) ≡ drop at piece = between_to_end piece at (length piece) (omega arith) in
    let within : at + n ≤ length piece = omega (arith, c.take-took.ensures.within, ap length tail, length-drop at piece, c.walk-test.true) in
    let new = c.add.new.rows in
    let rows_long : c.walk.rows.rows.len ≡ length c.walk.rows.rows.items = omega (arith, c.walk.rows.rows.ok.0) in
    let pairs_long : c.walk.rows.pairs.len ≡ length c.walk.rows.pairs.items = omega (arith, c.walk.rows.pairs.ok.0) in
    record {
      within = within;
      few = omega (arith, c.add.ensures.few, c.walk.invariant.few, c.take-took.ensures.some);
      rows = kept_through c.args.rows.now.rows.items c.walk.rows.rows.items new.rows.items c.walk.invariant.rows (subst (λ (k : ℕ). take k new.rows.items ≡ c.walk.rows.rows.items) rows_long c.add.ensures.rows);
      pairs = kept_through c.args.rows.now.pairs.items c.walk.rows.pairs.items new.pairs.items c.walk.invariant.pairs (subst (λ (k : ℕ). take k new.pairs.items ≡ c.walk.rows.pairs.items) pairs_long c.add.ensures.pairs);
      walked = λ bytes lists short.
          let before = c.walk.invariant.walked bytes lists short in
          let taken = c.take-took.ensures.took (bytes ++ take at piece) before.updates before.coming before.stands (omega (arith, short, ap length tail, length-drop at piece, length-append bytes (take at piece), length-take at piece)) in
          let came = c.in-Ok-None.ensures.added c.take-took.new.self _ before.updates before.coming (sym c.header.ensures) before.has taken in
          let walked = subst (λ (found : Option FileFault). IsKept ((bytes ++ take at piece) ++ take n (take (length piece - at) (drop at piece))) c.take-took.new.self new found) c.in-Ok-None.field-0-is came in
          subst (λ (l : List ℕ). Lists c.take-took.new.self new l) (ap (λ (l : List ℕ). (bytes ++ take at piece) ++ take n l) tail ∙ come_on bytes piece at n) walked;
    }

pub returns-in-Ok-Some-clause-walked : goal.returns-in-Ok-Some-clause-walked
returns-in-Ok-Some-clause-walked c = λ bytes lists short.
    let piece = c.args.piece.now in
    let at = c.walk.at in
    let n = c.take-took.result.len in
    let fault = c.in-Ok-Some.fault in
    let tail : take (length piece - at) (drop at piece) ≡ drop at piece = between_to_end piece at (length piece) (omega arith) in
    let before = c.walk.invariant.walked bytes lists short in
    let taken = c.take-took.ensures.took (bytes ++ take at piece) before.updates before.coming before.stands (omega (arith, short, ap length tail, length-drop at piece, length-append bytes (take at piece), length-take at piece)) in
    let came = c.in-Ok-Some.ensures.added c.take-took.new.self _ before.updates before.coming (sym c.header.ensures) before.has taken in
    let settled = subst (λ (found : Option FileFault). IsKept ((bytes ++ take at piece) ++ take n (take (length piece - at) (drop at piece))) c.take-took.new.self c.add.new.rows found) c.in-Ok-Some.field-0-is came in
    let here : IsSettled ((bytes ++ take at piece) ++ take n (drop at piece)) fault.offset fault.cause = subst (λ (l : List ℕ). IsSettled ((bytes ++ take at piece) ++ take n l) fault.offset fault.cause) tail settled in
    subst (λ (l : List ℕ). IsSettled l fault.offset fault.cause) (all_come bytes piece at n) (settled_stays ((bytes ++ take at piece) ++ take n (drop at piece)) (drop (at + n) piece) fault.offset fault.cause here)
