use Rattle.std.proofs.Common.{◌≡◌, ℕ, ◌<◌, length, ap, ◌∙◌, arith}
use Rattle.std.specs.Prelude.{slice_index}
use Rattle.std.proofs.Math.Nat.{le_refl}
use Rattle.machine_steps.specs.Hardware.{Hardware, with_rev}
use Rattle.hw_machine.specs.Machine.{hardware_of}
use Rattle.session_parts.proofs.Tables.{mixed_past, mixed_more}
use Rattle.session_parts.proofs.loads.set_revisions.Goals as goal

pub set_rev-requires-clause-no_lower : goal.set_rev-requires-clause-no_lower
set_rev-requires-clause-no_lower c =
    let old = hardware_of c.args.machine.now in
    let stays : (hardware_of c.groups.machine).rev c.groups.g ≡ old.rev c.groups.g =
    ap (λ (h : Hardware). h.rev c.groups.g) c.groups.invariant.set
    ∙ mixed_past (slice_index c.args.revs.now) old.rev c.groups.g c.groups.g (le_refl c.groups.g) in
    let inside : c.groups.g < length c.args.revs.now =
    omega (arith, c.groups-test.true, c.groups-g-end.ensures.value, c.requires.groups) in
    omega (arith, stays, c.requires.no_lower c.groups.g inside)

pub groups-preserved : goal.groups-preserved
groups-preserved c =
    let old = hardware_of c.args.machine.now in
    record {
      set = c.set_rev.ensures.changed ∙ ap (λ (h : Hardware). with_rev h c.groups.g
          (slice_index c.args.revs.now c.groups.g)) c.groups.invariant.set
          ∙ ap (λ (rev : ℕ → ℕ). record old { rev = rev })
          (mixed_more (slice_index c.args.revs.now) old.rev c.groups.g);
      same = c.set_rev.ensures.same_setting ∙ c.groups.invariant.same;
    }
