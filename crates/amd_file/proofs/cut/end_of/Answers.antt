use Rattle.std.proofs.Common.{◌<◌, length, sym, subst, Option}
use Rattle.uc_bytes.specs.declared.causes.FileFault.{FileFault}
use Rattle.amd_file.specs.declared.progress.Stage.{Stage}
use Rattle.amd_file.specs.Stage.{want}
use Rattle.amd_file.specs.Parsing.{IsEnded, StandsAt}
use Rattle.amd_file.proofs.Ending.{head_short, rows_cut, tail_cut, header_cut, body_cut}
use Rattle.amd_file.proofs.cut.end_of.Goals as goal

pub returns-in-Head : goal.returns-in-Head
returns-in-Head c = λ bytes told at.
    let p = c.args.progress in
    let held = c.args.held.now in
    let short : length held < 12 = subst (λ (s : Stage). length held < want s) c.in-Head.is c.requires in
    subst (λ (r : Option FileFault). IsEnded bytes told r) (sym c.cut_off.ensures)
    (head_short bytes held told p.fed p.start p.patches (subst (λ (s : Stage). StandsAt s bytes told p.fed p.start p.patches held) c.in-Head.is at) short)

pub returns-in-Next : goal.returns-in-Next
returns-in-Next c = λ bytes told at.
    let p = c.args.progress in
    c.end_of_next.ensures bytes told (subst (λ (s : Stage). StandsAt s bytes told p.fed p.start p.patches c.args.held.now) c.in-Next.is at)

pub returns-in-Rows : goal.returns-in-Rows
returns-in-Rows c = λ bytes told at.
    let p = c.args.progress in
    let held = c.args.held.now in
    let short : length held < 16 = subst (λ (s : Stage). length held < want s) c.in-Rows.is c.requires in
    subst (λ (r : Option FileFault). IsEnded bytes told r) (sym c.cut_off-in-Rows.ensures)
    (rows_cut bytes held told p.fed p.start p.patches c.in-Rows.field-0 c.in-Rows.field-1 (subst (λ (s : Stage). StandsAt s bytes told p.fed p.start p.patches held) c.in-Rows.is at) short)

pub returns-in-Tail : goal.returns-in-Tail
returns-in-Tail c = λ bytes told at.
    let p = c.args.progress in
    let held = c.args.held.now in
    let short : length held < 1 = subst (λ (s : Stage). length held < want s) c.in-Tail.is c.requires in
    subst (λ (r : Option FileFault). IsEnded bytes told r) (sym c.cut_off-in-Tail.ensures)
    (tail_cut bytes held told p.fed p.start p.patches c.in-Tail.field-0 (subst (λ (s : Stage). StandsAt s bytes told p.fed p.start p.patches held) c.in-Tail.is at) short)

pub returns-in-Header : goal.returns-in-Header
returns-in-Header c = λ bytes told at.
    let p = c.args.progress in
    let held = c.args.held.now in
    let short : length held < 64 = subst (λ (s : Stage). length held < want s) c.in-Header.is c.requires in
    subst (λ (r : Option FileFault). IsEnded bytes told r) (sym c.cut_off-in-Header.ensures)
    (header_cut bytes held told p.fed p.start p.patches c.in-Header.field-0 (subst (λ (s : Stage). StandsAt s bytes told p.fed p.start p.patches held) c.in-Header.is at) short)

pub returns-in-Body : goal.returns-in-Body
returns-in-Body c = λ bytes told at.
    let p = c.args.progress in
    let held = c.args.held.now in
    let short : length held < 1 = subst (λ (s : Stage). length held < want s) c.in-Body.is c.requires in
    subst (λ (r : Option FileFault). IsEnded bytes told r) (sym c.cut_off-in-Body.ensures)
    (body_cut bytes held told p.fed p.start p.patches c.in-Body.field-0 c.in-Body.field-1 (subst (λ (s : Stage). StandsAt s bytes told p.fed p.start p.patches held) c.in-Body.is at) short)
