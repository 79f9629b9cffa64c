use Rattle.std.proofs.Common.{◌≡◌, ℕ, ◌∙◌, ap}
use Rattle.rendezvous_steps.specs.declared.operations.Word.{Word}
use Rattle.ctl_words.specs.declared.plans.Plan.{Plan as Tables}
use Rattle.ctl_words.specs.Plans.{plan_of}
use Rattle.ctl_words.specs.Places.{place_of}
use Rattle.ctl_table.proofs.Performing.{turn_load, turn_store, turn_add, turn_sub, turn_cas}
use Rattle.ctl_table.proofs.bays.Bay.perform.Goals as goal

-- the place of a word, by the plan in its box
placed : (p q : Tables) (place : ℕ) (w v : Word) → place ≡ place_of (plan_of q) w → q ≡ p → w ≡ v → place ≡ place_of (plan_of p) v
placed p q place w v at same is =
    at ∙ (ap (λ (x : Tables). place_of (plan_of x) w) same ∙ ap (place_of (plan_of p)) is)

pub load-requires : goal.load-requires
load-requires g c =
    let bay = c.args.self.now in
    turn_load bay c.args.seat.now g.H.Manner.how c.args.op _ c.requires.may (placed bay.plan.value c.deref.result.now _ _ _ c.place-place.ensures.place c.deref.ensures c.word.ensures) _ c.in-Load.is

pub swap-requires : goal.swap-requires
swap-requires g c =
    let bay = c.args.self.now in
    turn_store bay c.args.seat.now g.H.Manner.how c.args.op _ c.requires.may (placed bay.plan.value c.deref.result.now _ _ _ c.place-place.ensures.place c.deref.ensures c.word.ensures) _ _ c.in-Store.is

pub fetch_add-requires : goal.fetch_add-requires
fetch_add-requires g c =
    let bay = c.args.self.now in
    turn_add bay c.args.seat.now g.H.Manner.how c.args.op _ c.requires.may (placed bay.plan.value c.deref.result.now _ _ _ c.place-place.ensures.place c.deref.ensures c.word.ensures) _ _ c.in-Add.is

pub fetch_sub-requires : goal.fetch_sub-requires
fetch_sub-requires g c =
    let bay = c.args.self.now in
    turn_sub bay c.args.seat.now g.H.Manner.how c.args.op _ c.requires.may (placed bay.plan.value c.deref.result.now _ _ _ c.place-place.ensures.place c.deref.ensures c.word.ensures) _ _ c.in-Sub.is

pub compare_exchange-requires : goal.compare_exchange-requires
compare_exchange-requires g c =
    let bay = c.args.self.now in
    turn_cas bay c.args.seat.now g.H.Manner.how c.args.op _ c.requires.may (placed bay.plan.value c.deref.result.now _ _ _ c.place-place.ensures.place c.deref.ensures c.word.ensures) _ _ _ c.in-Cas.is
