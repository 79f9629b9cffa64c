use Rattle.std.proofs.Common.{◌≡◌, ◌-◌, ◌++◌, [], ◌∷◌, List, map, sym, ap, ◌∙◌, arith}
use Rattle.std.specs.List.{range_with_len}
use Rattle.std.proofs.lemmas.List.{map-append}
use Rattle.std.proofs.lemmas.List.FromFn.{map-range_with_len_more}
use Rattle.rendezvous_steps.specs.declared.steps.Local.{Local}
use Rattle.rendezvous_steps.specs.StepTable.{opening}
use Rattle.ctl_words.specs.Plans.{plan_of}
use Rattle.ctl_core.specs.Stands.{local_of}
use Rattle.ctl_core.proofs.moments.fill_openings.Goals as goal

pub loop-thread-preserved : goal.loop-thread-preserved
loop-thread-preserved c =
    let f = opening (plan_of c.args.plan.now) in
    let n = c.loop-thread.thread in
    ap (λ stands. map local_of stands) c.in_ok-push.ensures.items ∙ map-append local_of c.loop-thread.stands.items (c.of.result ∷ [])
    ∙ ap (λ (locals : List Local). locals ++ local_of c.of.result ∷ []) c.loop-thread.invariant
    ∙ rw (c.of.ensures, c.opening.ensures) (sym (map-range_with_len_more f 0 n n (omega arith)))

pub returns : goal.returns
returns c =
    let f = opening (plan_of c.args.plan.now) in
    let end : c.loop-thread.thread ≡ c.args.plan.now.threads - 0 = omega arith in
    c.loop-thread.invariant ∙ ap (λ n. map f (range_with_len 0 n)) end
