use Rattle.std.proofs.Common.{◌≡◌, ◌-◌, ℕ, List, length, take, drop, arith, sym, subst}
use Rattle.std.specs.Io.KnownBytes.{Appends}
use Rattle.std.proofs.KnownBytes.{Appends-trans}
use Rattle.std.proofs.Math.Seq.{take-add}
use Rattle.std.proofs.lemmas.List.{take_all, length-drop}
use Rattle.std.proofs.lemmas.Grind.{common_steps}
use Rattle.uc_io.proofs.gathering.write_all.Goals as goal

pub loop-written-preserved : goal.loop-written-preserved
loop-written-preserved g c =
    let piece : List ℕ = c.args.piece.now in
    let written = c.loop-written.written in
    let taken = c.write_some-taken.result in
    let rest : List ℕ = drop written piece in
    let all : take (length piece - written) rest ≡ rest = take_all (length piece - written) rest (omega (arith, length-drop written piece)) in
    let first = g.W.Write.contents c.args.to.now in
    let mid = g.W.Write.contents c.loop-written.to in
    let last = g.W.Write.contents c.write_some-taken.new.to in (
      grind (arith, common_steps, c.write_some-taken.ensures.within),
      subst (Appends first last) (sym (take-add written taken piece))
          (Appends-trans first mid last (take written piece) (take taken rest) c.loop-written.invariant.1
          (subst (λ (l : List ℕ). Appends mid last (take taken l)) all c.write_some-taken.ensures.bytes)),
    )
