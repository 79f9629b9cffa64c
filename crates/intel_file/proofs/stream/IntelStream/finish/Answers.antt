use Rattle.std.proofs.Common.{Option, subst}
use Rattle.uc_bytes.specs.declared.causes.FileFault.{FileFault}
use Rattle.intel_file.specs.Stream.{StandsWith}
use Rattle.intel_file.proofs.stream.IntelStream.finish.Goals as goal

pub returns-in-Some-end : goal.returns-in-Some-end
returns-in-Some-end c = λ bytes stands.
    let s = c.args.self in
    let lists = (subst (λ (f : Option FileFault). StandsWith bytes s.walk s.updates.items s.fed f) c.in_default.is stands).0 in
    (c.in-Some-end.ensures bytes lists.updates lists.pairs lists.stands).0

pub returns-in-None : goal.returns-in-None
returns-in-None c = λ bytes stands.
    let s = c.args.self in
    let lists = (subst (λ (f : Option FileFault). StandsWith bytes s.walk s.updates.items s.fed f) c.in_default.is stands).0 in
    (lists.updates, c.in-None.ensures bytes lists.updates lists.pairs lists.stands, lists.lists)
