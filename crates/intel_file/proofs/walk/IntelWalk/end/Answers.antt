use Rattle.std.proofs.Common.{◌≡◌, ◌<◌, ◌++◌, length, sym, ap, subst, arith, length-append}
use Rattle.std.proofs.lemmas.Grind.{common_steps}
use Rattle.uc_bytes.specs.declared.causes.FileFault.{FileFault}
use Rattle.intel_format.specs.File.{IsFault}
use Rattle.intel_format.specs.Settled.{IsCut}
use Rattle.intel_file.specs.declared.progress.Stage.{Stage}
use Rattle.intel_file.specs.Progress.{IsAtStage}
use Rattle.intel_file.specs.Stage.{unit_of}
use Rattle.intel_file.proofs.Walks.{ended_short, ended_cut, behind_header}
use Rattle.intel_file.proofs.walk.IntelWalk.end.Goals as goal

pub returns-in-Header-2 : goal.returns-in-Header-2
returns-in-Header-2 c = λ bytes us pairs stands.
    let walk = c.args.self.now in
    let held = walk.held.items in
    let none = subst (λ (s : Stage). IsAtStage s walk.progress stands.done pairs) c.in-Header-2.is stands.at in
    let short : length held < 48 = subst (λ (s : Stage). length held < unit_of s) c.in-Header-2.is walk.short in
    let long : length (stands.done ++ held) ≡ length held = omega (arith, ap length none.0, length-append stands.done held) in
    let some : 0 < length held = grind (arith, common_steps) in
    subst (λ (f : FileFault). IsFault bytes f.offset f.cause × IsCut f.cause) (sym c.fault.ensures)
    (ended_short bytes (stands.done ++ held) us walk.start stands.split stands.each (stands.room (omega (arith, long, some))) stands.start (omega (arith, long, some)) (omega (arith, long, short)), tt)

pub returns-in_default : goal.returns-in_default
returns-in_default c = λ bytes us pairs stands.
    let walk = c.args.self.now in
    let held = walk.held.items in
    let behind = behind_header walk.progress.stage walk.progress stands.done pairs c.in_default.not-Header stands.at in
    let some : 0 < length (stands.done ++ held) = omega (arith, behind.has.long, length-append stands.done held) in
    subst (λ (f : FileFault). IsFault bytes f.offset f.cause × IsCut f.cause) (sym c.fault-in_default.ensures)
    (ended_cut bytes stands.done held us walk.start walk.progress (unit_of walk.progress.stage) stands.split stands.each (stands.room some) stands.start behind walk.short, tt)
