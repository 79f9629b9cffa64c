use Rattle.std.proofs.Common.{◌≡◌, ℕ, ◌<◌, ◌≤◌, List, [], ◌++◌, length, take, option_to_list, sym, ◌∙◌, ap, subst, arith, length-append}
use Rattle.std.proofs.lemmas.Grind.{common_steps}
use Rattle.uc_bytes.specs.declared.causes.FileFault.{FileFault}
use Rattle.intel_format.specs.File.{joined}
use Rattle.intel_format.specs.Settled.{IsSettled}
use Rattle.intel_file.specs.Stage.{unit_of}
use Rattle.intel_file.specs.Progress.{IsCome, IsWithin}
use Rattle.intel_file.proofs.Walks.{taken, none_from_length, behind_held, too_many, unit_within}
use Rattle.intel_file.proofs.walk.IntelWalk.take.Goals as goal

pub returns-then-self-ge-MOST_UPDATES-clause-took : goal.returns-then-self-ge-MOST_UPDATES-clause-took
returns-then-self-ge-MOST_UPDATES-clause-took c = λ bytes us pairs stands within.
    let walk = c.args.self.now in
    let held = walk.held.items in
    let more = take 1 c.args.rest.now in
    let split : bytes ++ more ≡ joined us ++ (stands.done ++ (held ++ more)) = ap (λ (l : List ℕ). l ++ more) stands.split ∙ behind_held (joined us) stands.done held more in
    let one : length more ≡ 1 = taken 1 c.args.rest.now (omega (arith, c.requires)) in
    let many : length us ≡ 65536 = omega (arith, c.if-self-ge-MOST_UPDATES.true, stands.count, stands.few) in
    let some : 0 < length (stands.done ++ (held ++ more)) = omega (arith, one, length-append stands.done (held ++ more), length-append held more) in
    subst (λ (f : FileFault). IsSettled (bytes ++ more) f.offset f.cause) (sym c.fault.ensures)
    (too_many (bytes ++ more) (stands.done ++ (held ++ more)) us walk.start split stands.each many stands.start some)

pub returns-then-is_empty-clause-took : goal.returns-then-is_empty-clause-took
returns-then-is_empty-clause-took c = λ bytes us pairs stands within.
    let walk = c.args.self.now in
    let held = walk.held.items in
    let n = c.at_once-whole.result in
    let more = take n c.args.rest.now in
    let long : length more ≡ n = taken n c.args.rest.now c.at_once-whole.ensures.within in
    let empty : length held ≡ 0 = grind (arith, common_steps) in
    let none : held ≡ [] = none_from_length held empty in
    let come : IsCome (stands.done ++ more) (pairs ++ option_to_list c.come-came.result.pair) c.come-came.new.self c.come-came.result.end =
    c.come-came.ensures stands.done pairs stands.at (subst (λ (k : ℕ). IsWithin walk.progress k) (sym long) c.at_once-whole.ensures.left) in
    c.brought.ensures (bytes ++ more) (stands.done ++ more) us (pairs ++ option_to_list c.come-came.result.pair)
    (record {
      split = ap (λ (l : List ℕ). l ++ more) stands.split ∙ behind_held (joined us) stands.done held more ∙ ap (λ (l : List ℕ). joined us ++ (stands.done ++ (l ++ more))) none;
      within = omega (arith, within, long, c.at_once-whole.ensures.within, length-append bytes more);
      some = omega (arith, long, c.if-whole-gt0.true, length-append stands.done more);
      each = stands.each;
      start = stands.start;
      count = stands.count;
      few = omega (arith, c.if-self-ge-MOST_UPDATES.false, stands.count);
      none_held = none;
      come = come;
    })

pub returns-clause-took : goal.returns-clause-took
returns-clause-took c = λ bytes us pairs stands within.
    let walk = c.args.self.now in
    let held = walk.held.items in
    let n = c.min-len.result in
    let more = take n c.args.rest.now in
    let least : n ≤ length c.args.rest.now = omega (arith, c.min-len.ensures, c.len.ensures.value) in
    let long : length more ≡ n = taken n c.args.rest.now least in
    let unit : c.as_slice.result.now ≡ held ++ more = c.as_slice.ensures.value ∙ c.hold.ensures in
    let whole : length (held ++ more) ≡ unit_of walk.progress.stage =
    omega (arith, c.unit_len-unit.ensures.value, c.min-len.ensures, c.len.ensures.value, c.len-2.ensures.value, ap length c.hold.ensures, c.if-len-unit.false, long, walk.short, length-append held more) in
    let come : IsCome (stands.done ++ (held ++ more)) (pairs ++ option_to_list c.come-came-2.result.pair) c.come-came-2.new.self c.come-came-2.result.end =
    subst (λ (l : List ℕ). IsCome (stands.done ++ l) (pairs ++ option_to_list c.come-came-2.result.pair) c.come-came-2.new.self c.come-came-2.result.end) unit
    (c.come-came-2.ensures stands.done pairs stands.at (unit_within walk.progress.stage walk.progress stands.done pairs (length c.as_slice.result.now) stands.at (ap length unit ∙ whole))) in
    c.brought-2.ensures (bytes ++ more) (stands.done ++ (held ++ more)) us (pairs ++ option_to_list c.come-came-2.result.pair)
    (record {
      split = ap (λ (l : List ℕ). l ++ more) stands.split ∙ behind_held (joined us) stands.done held more;
      within = omega (arith, within, long, least, length-append bytes more);
      some = omega (arith, whole, c.unit_len-unit.ensures.value, c.unit_len-unit.ensures.some, length-append stands.done (held ++ more));
      each = stands.each;
      start = stands.start;
      count = stands.count;
      few = omega (arith, c.if-self-ge-MOST_UPDATES.false, stands.count);
      none_held = c.clear.ensures;
      come = come;
    })
