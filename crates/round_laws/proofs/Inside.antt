-- After a go every thread that takes part is inside until it is freed.
use Rattle.std.proofs.Common.{◌≡◌, ◌⊎◌, ℕ, Bool, true, false, not, ◌||◌, ◌==◌, refl, ap, sym, ◌∙◌, subst, inl, inr, true≢false}
use Rattle.rendezvous_steps.specs.declared.steps.Kind.{Kind}
use Rattle.rendezvous_steps.specs.declared.steps.Kind.TheVariants.{Online, Offline, Absent}
use Rattle.rendezvous_steps.specs.declared.steps.Phase.{Phase}
use Rattle.rendezvous_steps.specs.declared.steps.Phase.TheVariants as phase
use Rattle.rendezvous_steps.specs.declared.steps.Local.{Local}
use Rattle.rendezvous_steps.specs.Plan.{Plan, Sound, is_absent, is_primary}
use Rattle.rendezvous_steps.specs.Words.{Families}
use Rattle.rendezvous_model.specs.Round.{In, Halted, Going, State, is_dropped}
use Rattle.rendezvous_rule.specs.View.{views, place_in, arrived_in, is_timeout}
use Rattle.rendezvous_rule.specs.Seen.{place_seen}
use Rattle.rendezvous_rule.specs.Knows.{Knows, OnlineKnows, OfflineKnows, Ends}
use Rattle.rendezvous_rule.specs.Rule.{RuleBy}
use Rattle.rule_laws.proofs.Facts.{state}

ends_freed :
    (b : Bool) (plan : Plan) (t mine : ℕ) (s : State) →
    s.stage ≡ Going → is_primary plan t ≡ false → Ends b plan t mine s → s.freed t ≡ true
ends_freed true plan t mine s going primary knows =
    absurd (true≢false (sym knows ∙ ap is_dropped going))
ends_freed false plan t mine s going primary knows = knows.2 primary

online_inside :
    (p : Phase) (plan : Plan) (t at mine : ℕ) (s : State) (given z : Bool) →
    OnlineKnows p plan t at mine s →
    s.stage ≡ Going →
    is_primary plan t ≡ false →
    s.freed t ≡ false →
    arrived_in p mine given ≡ true → (place_seen (place_in p mine) z ≡ In) ⊎ (place_seen (place_in p mine) z ≡ Halted)
online_inside phase.Outside plan t at mine s given z knows going primary freed arrived = cc
online_inside phase.OfflineCount plan t at mine s given z knows going primary freed arrived = absurd knows
online_inside phase.OfflineHold plan t at mine s given z knows going primary freed arrived = absurd knows
online_inside phase.Withdrawn plan t at mine s given z knows going primary freed arrived = absurd knows
online_inside phase.Nothing plan t at mine s given z knows going primary freed arrived = absurd knows
online_inside phase.Left plan t at mine s given z knows going primary freed arrived =
    absurd (true≢false (sym (ends_freed (is_timeout mine) plan t mine s going primary knows) ∙ freed))
online_inside phase.Halted plan t at mine s given z knows going primary freed arrived = inr refl
online_inside p plan t at mine s given z knows going primary freed arrived = inl refl

offline_inside :
    (p : Phase) (t mine : ℕ) (s : State) (given z : Bool) →
    OfflineKnows p t mine s →
    s.freed t ≡ false →
    arrived_in p mine given ≡ true → (place_seen (place_in p mine) z ≡ In) ⊎ (place_seen (place_in p mine) z ≡ Halted)
offline_inside phase.Outside t mine s given z knows freed arrived = cc
offline_inside phase.OfflineCount t mine s given z knows freed arrived = cc
offline_inside phase.OfflineHold t mine s given z knows freed arrived = inl refl
offline_inside phase.Leaving t mine s given z knows freed arrived = inl refl
offline_inside phase.Left t mine s given z knows freed arrived = absurd (true≢false (sym knows.1 ∙ freed))
offline_inside phase.Halted t mine s given z knows freed arrived = inr refl
offline_inside phase.Withdrawn t mine s given z knows freed arrived = cc
offline_inside p t mine s given z knows freed arrived = absurd knows

inside_by :
    (plan : Plan) (words : Families) (locals : ℕ → Local) (first : Bool) (u : ℕ) (kind : Kind) →
    Sound plan →
    RuleBy plan words locals first Going →
    plan.kind u ≡ kind →
    is_absent kind ≡ false →
    is_primary plan u ≡ false →
    (let s = state plan first locals Going in s.freed u ≡ false → (s.place u ≡ In) ⊎ (s.place u ≡ Halted))
unfolding views
inside_by plan words locals first u Online sound rule e present primary freed =
    let s = state plan first locals Going in
    let l = locals u in
    online_inside l.phase plan u l.at l.mine s (not (u == 0) || first) ((views plan first locals).settles 0 u)
    (subst (λ kind. Knows kind plan u l s) e (rule.knows u))
    refl primary freed (rule.gathered.go_after_all refl u e)
inside_by plan words locals first u Offline sound rule e present primary freed =
    let s = state plan first locals Going in
    let l = locals u in
    offline_inside l.phase u l.mine s (not (u == 0) || first) ((views plan first locals).settles 0 u)
    (subst (λ kind. Knows kind plan u l s) e (rule.knows u))
    freed
    (rule.gathered.zero_last (rule.gathered.go_after_all refl 0 sound.thread_0_is_online) u e)
inside_by plan words locals first u Absent sound rule e present primary freed = cc

pub inside_after_go :
    (plan : Plan) (words : Families) (locals : ℕ → Local) (first : Bool) (u : ℕ) →
    Sound plan →
    RuleBy plan words locals first Going →
    is_absent (plan.kind u) ≡ false →
    is_primary plan u ≡ false →
    (let s = state plan first locals Going in s.freed u ≡ false → (s.place u ≡ In) ⊎ (s.place u ≡ Halted))
inside_after_go plan words locals first u sound rule present primary freed =
    inside_by plan words locals first u (plan.kind u) sound rule refl present primary freed
