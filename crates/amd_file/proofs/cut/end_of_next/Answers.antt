use Rattle.std.proofs.Common.{refl, sym, subst, arith, Option}
use Rattle.uc_bytes.specs.declared.causes.FileFault.{FileFault}
use Rattle.amd_file.specs.Parsing.{IsEnded}
use Rattle.amd_file.proofs.Ending.{next_head_short, section_short}
use Rattle.amd_file.proofs.cut.end_of_next.Goals as goal

pub returns-then-begins_container : goal.returns-then-begins_container
returns-then-begins_container c = λ bytes told at.
    let p = c.args.progress in
    let magic = c.if-begins_container.ensures.0 refl in
    subst (λ (r : Option FileFault). IsEnded bytes told r) (sym c.cut_off.ensures)
    (next_head_short bytes c.args.held.now told p.fed p.start p.patches at magic.0 magic.1 (omega (arith, c.requires)))

pub returns : goal.returns
returns c = λ bytes told at.
    let p = c.args.progress in
    let held = c.args.held.now in
    subst (λ (r : Option FileFault). IsEnded bytes told r) (sym c.cut_off-2.ensures)
    (section_short bytes held told p.fed p.start p.patches at (λ magic. cc (c.if-begins_container.ensures.1 magic)) (grind arith) c.requires)
