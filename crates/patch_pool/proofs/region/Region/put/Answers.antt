use Rattle.std.proofs.Common.{◌≡◌, ℕ, ◌+◌, ◌*◌, ◌<◌, List, length, take, drop, ◌++◌, true, sym, ap, ◌∙◌, subst, arith}
use Rattle.std.specs.List.{slice_set}
use Rattle.std.proofs.lemmas.List.Sums.{count_by-le-length}
use Rattle.std.proofs.Math.Seq.{take-append_seam}
use Rattle.region_steps.specs.Region.{Patches, blocks_of, is_free_run, put_at}
use Rattle.patch_pool.specs.Bytes.{begins, patches_in, copied_over}
use Rattle.patch_pool.proofs.Memory.{patches_put, none_before, one_more, inside_set}
use Rattle.patch_pool.proofs.region.Region.put.Goals as goal

whole_front : (bytes rest : List ℕ) (n : ℕ) → n ≡ length bytes → take n (bytes ++ rest) ≡ bytes
whole_front bytes rest n e = ap (λ (k : ℕ). take k (bytes ++ rest)) e ∙ take-append_seam bytes rest

pub overflow_add-self : goal.overflow_add-self
overflow_add-self c =
    omega (arith, c.reach.new.self.counted, count_by-le-length begins c.reach.new.self.lengths.items, c.reach.new.self.few, c.reach.new.self.lengths.ok.0)

pub invariant_of-self-clause-inside : goal.invariant_of-self-clause-inside
invariant_of-self-clause-inside c =
    let bytes = c.reach.new.self.bytes.items in
    let lengths = c.reach.new.self.lengths.items in
    let whole = whole_front c.copy_over.new.bytes (drop (length c.copy_over.new.bytes) bytes) c.reach.new.self.bytes.len (omega (arith, c.reach.new.self.bytes.ok.0, c.copy_over.auto.bytes, c.deref_mut.ensures.len)) in
    inside_set bytes (take c.reach.new.self.bytes.len (c.copy_over.new.bytes ++ drop (length c.copy_over.new.bytes) bytes)) lengths c.args.first (length c.args.bytes.now) c.reach.new.self.inside
    (ap length whole ∙ omega (arith, c.copy_over.auto.bytes, c.deref_mut.ensures.len, c.reach.new.self.bytes.ok.0))
    (omega (arith, c.requires.some, c.reach.ensures.reached, c.reach.new.self.bytes.ok.0))
    (omega (arith, c.requires.inside, c.requires.some, c.reach.ensures.size, c.reach.new.self.lengths.ok.0))

pub invariant_of-self-clause-counted : goal.invariant_of-self-clause-counted
invariant_of-self-clause-counted c =
    let bytes = c.reach.new.self.bytes.items in
    let lengths = c.reach.new.self.lengths.items in
    let there : c.args.first < length lengths = omega (arith, c.requires.inside, c.requires.some, c.reach.ensures.size, c.reach.new.self.lengths.ok.0) in
    let none = none_before bytes lengths c.args.first c.args.bytes.now
    (record {
      inside = c.reach.new.self.inside;
      there = there;
      some = c.requires.some;
      fits = omega (arith, c.requires.some, c.reach.ensures.reached, c.reach.new.self.bytes.ok.0);
      free = subst (λ (patches : Patches). is_free_run patches (blocks_of c.args.bytes.now) c.args.first ≡ true) (sym c.reach.ensures.same) c.requires.free;
    }) in
    ap (λ (n : ℕ). n + 1) c.reach.new.self.counted ∙ sym (one_more lengths c.args.first (length c.args.bytes.now) there none c.requires.some)

pub returns-clause-put : goal.returns-clause-put
returns-clause-put c =
    let bytes = c.reach.new.self.bytes.items in
    let lengths = c.reach.new.self.lengths.items in
    let first = c.args.first in
    let new = c.args.bytes.now in
    let written : c.copy_over.new.bytes ≡ copied_over bytes (1024 * first) new = c.copy_over.ensures ∙ ap (λ (bs : List ℕ). copied_over bs (first * 1024) new) c.deref_mut.ensures.value ∙ ap (λ (at : ℕ). copied_over bytes at new) (omega arith) in
    let whole = whole_front c.copy_over.new.bytes (drop (length c.copy_over.new.bytes) bytes) c.reach.new.self.bytes.len (omega (arith, c.reach.new.self.bytes.ok.0, c.copy_over.auto.bytes, c.deref_mut.ensures.len)) in
    ap (λ (bs : List ℕ). patches_in bs (slice_set lengths first (length new))) (whole ∙ written) ∙ patches_put bytes lengths first new
    (record {
      inside = c.reach.new.self.inside;
      there = omega (arith, c.requires.inside, c.requires.some, c.reach.ensures.size, c.reach.new.self.lengths.ok.0);
      some = c.requires.some;
      fits = omega (arith, c.requires.some, c.reach.ensures.reached, c.reach.new.self.bytes.ok.0);
      free = subst (λ (patches : Patches). is_free_run patches (blocks_of c.args.bytes.now) c.args.first ≡ true) (sym c.reach.ensures.same) c.requires.free;
    })
    ∙ ap (λ (patches : Patches). put_at patches first new) c.reach.ensures.same
