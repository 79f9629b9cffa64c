use Rattle.std.proofs.Common.{◌+◌, ◌++◌, length, Option, Ok, sym, subst, arith, length-append}
use Rattle.uc_bytes.specs.declared.causes.FileFault.{FileFault}
use Rattle.intel_format.specs.Settled.{IsSettled}
use Rattle.intel_format.proofs.Settled.{settled_stays}
use Rattle.intel_file.specs.Stream.{Lists, IsWalked, StandsWith}
use Rattle.intel_file.proofs.Standing.{none_settled}
use Rattle.intel_file.proofs.stream.IntelStream.feed.Goals as goal

pub returns-in-Some-clause-stands : goal.returns-in-Some-clause-stands
returns-in-Some-clause-stands c = λ bytes stands.
    let s = c.args.self.now in
    let piece = c.args.piece.now in
    let fault = c.in-Some.fault in
    let here : IsSettled bytes fault.offset fault.cause = subst (λ (f : Option FileFault). StandsWith bytes s.walk s.updates.items s.fed f) c.in-Some.is stands in
    let later : IsSettled (bytes ++ piece) fault.offset fault.cause = settled_stays bytes piece fault.offset fault.cause here in
    (subst (λ (f : Option FileFault). StandsWith (bytes ++ piece) s.walk s.updates.items s.fed f) (sym c.in-Some.is) later, later)

pub returns-in-Ok-None-clause-stands : goal.returns-in-Ok-None-clause-stands
returns-in-Ok-None-clause-stands c = λ bytes stands.
    let s = c.args.self.now in
    let piece = c.args.piece.now in
    let walk = c.walk_piece.new.walk in
    let items = c.walk_piece.new.updates.items in
    let live = subst (λ (f : Option FileFault). StandsWith bytes s.walk s.updates.items s.fed f) c.in_default.is stands in
    let came = c.in-Ok-None.ensures.walked bytes live.0 (omega (arith, c.requires, live.1)) in
    let lists : Lists walk items (bytes ++ piece) = subst (λ (found : Option FileFault). IsWalked (bytes ++ piece) walk items (Ok found)) c.in-Ok-None.field-0-is came in (
      subst (λ (f : Option FileFault). StandsWith (bytes ++ piece) walk items (s.fed + length piece) f) (sym c.in_default.is) (lists, omega (arith, live.1, length-append bytes piece)),
      none_settled walk (bytes ++ piece) lists.updates lists.pairs lists.stands,
    )

pub returns-in-Ok-Some-clause-stands : goal.returns-in-Ok-Some-clause-stands
returns-in-Ok-Some-clause-stands c = λ bytes stands.
    let s = c.args.self.now in
    let piece = c.args.piece.now in
    let live = subst (λ (f : Option FileFault). StandsWith bytes s.walk s.updates.items s.fed f) c.in_default.is stands in
    let came = c.in-Ok-Some.ensures.walked bytes live.0 (omega (arith, c.requires, live.1)) in
    let fault = c.in-Ok-Some.fault in
    let settled : IsSettled (bytes ++ piece) fault.offset fault.cause = subst (λ (found : Option FileFault). IsWalked (bytes ++ piece) c.walk_piece.new.walk c.walk_piece.new.updates.items (Ok found)) c.in-Ok-Some.field-0-is came in
    let now = subst (λ (f : FileFault). IsSettled (bytes ++ piece) f.offset f.cause) (sym c.in-Ok-Some.fault-is) settled in
    (now, now)
