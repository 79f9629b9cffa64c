use Rattle.std.proofs.Common.{◌≡◌, ◌+◌, [], ◌∷◌, length, refl, sym, ◌∙◌, ap, subst, arith, length-append}
use Rattle.uc_bytes.specs.declared.causes.FileFault.{FileFault}
use Rattle.intel_format.specs.File.{FileUpdate, joined}
use Rattle.intel_format.specs.Settled.{IsSettled}
use Rattle.intel_file.specs.declared.progress.End.{End}
use Rattle.intel_file.specs.Progress.{IsCome}
use Rattle.intel_file.proofs.Walks.{settled_of, split_held, split_on, each-push, length-push}
use Rattle.intel_file.proofs.walk.IntelWalk.brought.Goals as goal

pub returns-in-More : goal.returns-in-More
returns-in-More c = λ bytes own us pairs brought. record {
  done = own;
  split = brought.split ∙ split_held (joined us) own c.args.self.now.held.items brought.none_held;
  each = brought.each;
  start = brought.start;
  count = brought.count;
  few = omega (arith, brought.few);
  room = λ some. brought.few;
  at = subst (λ (e : End). IsCome own pairs c.args.self.now.progress e) c.in-More.is brought.come;
}

pub returns-in-Fault : goal.returns-in-Fault
returns-in-Fault c = λ bytes own us pairs brought.
    let walk = c.args.self.now in
    let fault = subst (λ (e : End). IsCome own pairs walk.progress e) c.in-Fault.is brought.come in
    subst (λ (f : FileFault). IsSettled bytes f.offset f.cause) (sym c.fault.ensures)
    (settled_of bytes own us walk.start c.in-Fault.cause brought.split brought.each brought.few brought.start brought.some fault)

pub returns-in-Whole : goal.returns-in-Whole
returns-in-Whole c = λ bytes own us pairs brought.
    let walk = c.args.self.now in
    let whole = subst (λ (e : End). IsCome own pairs walk.progress e) c.in-Whole.is brought.come in
    let u : FileUpdate = record { bytes = own; header = walk.progress.header; pairs = pairs } in
    let long : length own ≡ c.total_len.result = whole.0.whole ∙ sym c.total_len.ensures in
    let room : length (joined us) + length own ≡ length bytes = sym (ap length brought.split ∙ length-append (joined us) own) in (
      own,
      record {
        done = [];
        split = brought.split ∙ split_on own us u walk.held.items refl brought.none_held;
        each = each-push us u brought.each whole.0;
        start = omega (arith, brought.start, long, room, brought.within, length-push us u);
        count = omega (arith, brought.count, brought.few, length-append us (u ∷ []));
        few = omega (arith, brought.few, length-append us (u ∷ []));
        room = λ some. absurd (omega (arith, some, ap length brought.none_held));
        at = whole.2;
      },
      λ i. record { start = brought.start i; len = sym long i; pairs = whole.1 i },
    )
