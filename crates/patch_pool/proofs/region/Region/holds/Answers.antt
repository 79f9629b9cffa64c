use Rattle.std.proofs.Common.{◌≡◌, ℕ, not, nat_eq, sym, ap, ◌∙◌, arith}
use Rattle.std.specs.List.{slice_index}
use Rattle.std.proofs.lemmas.Bool.{le-ltb, eq-eqb}
use Rattle.std.proofs.lemmas.List.{get_or_read, get_or_past}
use Rattle.patch_pool.proofs.Memory.{begins_by_length}
use Rattle.patch_pool.proofs.region.Region.holds.Goals as goal

pub returns-then-at-len : goal.returns-then-at-len
returns-then-at-len c =
    let lengths = c.args.self.now.lengths.items in
    let len : c.index.result.now ≡ slice_index lengths c.args.first = get_or_read lengths c.args.first c.index.result.now (omega (arith, c.if-at-len.true, c.len.ensures, c.args.self.now.lengths.ok.0)) c.index.ensures 0 in
    ap (λ (n : ℕ). not (nat_eq n 0)) len ∙ begins_by_length c.args.self.now.bytes.items lengths c.args.first

pub returns-else-at-len : goal.returns-else-at-len
returns-else-at-len c =
    let lengths = c.args.self.now.lengths.items in
    let none : slice_index lengths c.args.first ≡ 0 = get_or_past lengths c.args.first 0 (omega (arith, c.if-at-len.false, c.len.ensures, c.args.self.now.lengths.ok.0)) in
    le-ltb c.args.first c.len.result c.if-at-len.false ∙ sym (ap not (eq-eqb (slice_index lengths c.args.first) 0 none)) ∙ begins_by_length c.args.self.now.bytes.items lengths c.args.first
