use Rattle.std.proofs.Common.{ℕ, ◌++◌, [], ◌∷◌, length, ap, sym, ◌∙◌, arith}
use Rattle.std.proofs.lemmas.List.FromFn.{length-map-range_with_len, map-range_with_len_more}
use Rattle.rendezvous_steps.specs.declared.operations.Word.TheVariants.{Rev}
use Rattle.ctl_core.specs.Moments.{running_of}
use Rattle.ctl_core.proofs.moments.Moment.fill_revisions.Goals as goal

pub push-requires : goal.push-requires
push-requires c =
    let held : ℕ → ℕ = λ g. (running_of c.args.self.now).words (Rev g) in
    let so_far = ap length c.groups.invariant ∙ length-map-range_with_len held 0 c.groups.group in
    (omega arith, omega (arith, so_far, c.groups-group-end.ensures.few, c.groups-test.true))

pub groups-preserved : goal.groups-preserved
groups-preserved c =
    let held : ℕ → ℕ = λ g. (running_of c.args.self.now).words (Rev g) in
    let n = c.groups.group in
    c.push.ensures.items ∙ ap (λ xs. xs ++ c.revision.result ∷ []) c.groups.invariant
    ∙ rw c.revision.ensures (sym (map-range_with_len_more held 0 n n (omega arith)))
