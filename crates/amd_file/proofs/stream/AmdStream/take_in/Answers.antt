use Rattle.std.proofs.Common.{◌≡◌, ℕ, ◌+◌, ◌-◌, ◌≤◌, List, ◌++◌, length, take, drop, vec_len, refl, sym, ◌∙◌, ap, subst, arith, append_assoc, length-drop}
use Rattle.std.proofs.Math.Seq.{take-add}
use Rattle.std.proofs.lemmas.Slice.{between_to_end}
use Rattle.amd_file.specs.Stream.{Stands}
use Rattle.amd_file.specs.declared.stream.AmdStream.{AmdStream}
use Rattle.amd_file.proofs.Streams.{stands_on}
use Rattle.amd_file.proofs.Taking.{take_before}
use Rattle.amd_file.proofs.stream.AmdStream.take_in.Goals as goal

pub piece-preserved : goal.piece-preserved
piece-preserved c =
    let piece = c.args.piece.now in
    let at = c.piece.at in
    let len = c.take-taken.result.len in
    let tail : take (length piece - at) (drop at piece) ≡ drop at piece = between_to_end piece at (length piece) (omega (arith, c.piece.invariant.inside)) in
    let rest_long : length (drop at piece) ≡ length piece - at = length-drop at piece in
    let within : len ≤ length (drop at piece) = subst (λ (l : List ℕ). len ≤ length l) tail c.take-taken.ensures.within in
    let after : AmdStream = record { alloc = c.piece.self.alloc; parser = c.take-taken.new.self; listing = c.add.new.self } in
    record {
      inside = omega (arith, within, rest_long, c.piece.invariant.inside);
      fed = omega (arith, c.take-taken.ensures.fed, c.piece.invariant.fed);
      stands = λ bytes before.
          let stands = c.piece.invariant.stands bytes before in
          let taken = c.take-taken.ensures.taken (bytes ++ take at piece) stands.told stands.parsed in
          let behind : (bytes ++ take at piece) ++ take len (take (length piece - at) (drop at piece)) ≡ bytes ++ take (at + len) piece =
          append_assoc bytes (take at piece) (take len (take (length piece - at) (drop at piece)))
          ∙ ap (λ (l : List ℕ). bytes ++ (take at piece ++ take len l)) tail
          ∙ ap (λ (l : List ℕ). bytes ++ l) (sym (take-add at len piece)) in
          subst (λ (l : List ℕ). Stands l after) behind
          (stands_on ((bytes ++ take at piece) ++ take len (take (length piece - at) (drop at piece))) stands.told after c.take-taken.result.part taken (c.in_ok-add.ensures.ok stands.told stands.listed));
      before = take_before c.args.self.now.listing.patches.items c.piece.self.listing.patches.items c.add.new.self.patches.items (length c.args.self.now.listing.patches.items) (vec_len c.piece.self.listing.patches) c.piece.invariant.before refl c.in_ok-add.ensures.before;
    }
