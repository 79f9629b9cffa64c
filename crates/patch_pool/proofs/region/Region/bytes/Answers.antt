use Rattle.std.proofs.Common.{◌≡◌, ℕ, ◌*◌, List, length, take, drop, Some, sym, ap, ◌∙◌, arith}
use Rattle.std.specs.List.{slice_index}
use Rattle.std.proofs.lemmas.List.{get_or_read}
use Rattle.patch_pool.proofs.Memory.{is_patch}
use Rattle.patch_pool.proofs.region.Region.bytes.Goals as goal

pub index-requires : goal.index-requires
index-requires c =
    let is = is_patch c.args.self.now.bytes.items c.args.self.now.lengths.items c.args.first c.requires in
    omega (arith, is.there, c.args.self.now.lengths.ok.0)

pub part-requires : goal.part-requires
part-requires c =
    let lengths = c.args.self.now.lengths.items in
    let is = is_patch c.args.self.now.bytes.items lengths c.args.first c.requires in
    let len : c.index.result.now ≡ slice_index lengths c.args.first = get_or_read lengths c.args.first c.index.result.now is.there c.index.ensures 0 in
    omega (arith, len, c.args.self.now.inside c.args.first is.some, ap length c.deref.ensures.value)

pub returns : goal.returns
returns c =
    let bytes = c.args.self.now.bytes.items in
    let lengths = c.args.self.now.lengths.items in
    let first = c.args.first in
    let is = is_patch bytes lengths first c.requires in
    let len : c.index.result.now ≡ slice_index lengths first = get_or_read lengths first c.index.result.now is.there c.index.ensures 0 in
    is.is ∙ ap (λ (n : ℕ). Some (take n (drop (1024 * first) bytes))) (sym len) ∙ ap (λ (bs : List ℕ). Some (take c.index.result.now (drop (1024 * first) bs))) (sym c.deref.ensures.value) ∙ ap (λ (at : ℕ). Some (take c.index.result.now (drop at c.deref.result.now))) (omega arith) ∙ ap (λ (bs : List ℕ). Some bs) (sym c.part.ensures)
