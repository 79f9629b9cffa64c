use Rattle.std.proofs.Common.{◌≡◌, ℕ, ◌+◌, ◌/◌, refl, sym, ap, ◌∙◌, arith}
use Rattle.std.specs.List.{slice_index}
use Rattle.std.proofs.lemmas.List.{get_or_read}
use Rattle.patch_pool.proofs.Memory.{is_patch, width_is, patches_out, one_less, inside_set}
use Rattle.patch_pool.proofs.region.Region.take_out.Goals as goal

pub index-requires : goal.index-requires
index-requires c =
    let is = is_patch c.args.self.now.bytes.items c.args.self.now.lengths.items c.args.first c.requires in
    omega (arith, is.there, c.args.self.now.lengths.ok.0)

pub index_mut-requires : goal.index_mut-requires
index_mut-requires c =
    let is = is_patch c.args.self.now.bytes.items c.args.self.now.lengths.items c.args.first c.requires in
    omega (arith, is.there, c.args.self.now.lengths.ok.0)

pub blocks_for-blocks-requires : goal.blocks_for-blocks-requires
blocks_for-blocks-requires c =
    let lengths = c.args.self.now.lengths.items in
    let is = is_patch c.args.self.now.bytes.items lengths c.args.first c.requires in
    let len : c.index.result.now ≡ slice_index lengths c.args.first = get_or_read lengths c.args.first c.index.result.now is.there c.index.ensures 0 in
    omega (arith, len, c.args.self.now.inside c.args.first is.some, c.args.self.now.few, c.args.self.now.short, c.args.self.now.bytes.ok.0)

pub returns-clause-blocks : goal.returns-clause-blocks
returns-clause-blocks c =
    let lengths = c.args.self.now.lengths.items in
    let is = is_patch c.args.self.now.bytes.items lengths c.args.first c.requires in
    let len : c.index.result.now ≡ slice_index lengths c.args.first = get_or_read lengths c.args.first c.index.result.now is.there c.index.ensures 0 in
    c.blocks_for-blocks.ensures ∙ ap (λ (n : ℕ). (n + 1023) / 1024) len ∙ sym (width_is c.args.self.now.bytes.items lengths c.args.first c.args.self.now.inside is)

pub returns-clause-out : goal.returns-clause-out
returns-clause-out c =
    let is = is_patch c.args.self.now.bytes.items c.args.self.now.lengths.items c.args.first c.requires in
    patches_out c.args.self.now.bytes.items c.args.self.now.lengths.items c.args.first is.there

pub overflow_sub-self : goal.overflow_sub-self
overflow_sub-self c =
    let lengths = c.args.self.now.lengths.items in
    let is = is_patch c.args.self.now.bytes.items lengths c.args.first c.requires in
    omega (arith, one_less lengths c.args.first is.there is.some, c.args.self.now.counted)

pub invariant_of-self-clause-inside : goal.invariant_of-self-clause-inside
invariant_of-self-clause-inside c =
    let bytes = c.args.self.now.bytes.items in
    let lengths = c.args.self.now.lengths.items in
    let is = is_patch bytes lengths c.args.first c.requires in
    inside_set bytes bytes lengths c.args.first 0 c.args.self.now.inside refl (omega (arith, c.args.self.now.inside c.args.first is.some)) is.there

pub invariant_of-self-clause-counted : goal.invariant_of-self-clause-counted
invariant_of-self-clause-counted c =
    let lengths = c.args.self.now.lengths.items in
    let is = is_patch c.args.self.now.bytes.items lengths c.args.first c.requires in
    let less = one_less lengths c.args.first is.there is.some in
    omega (arith, less, c.args.self.now.counted)
