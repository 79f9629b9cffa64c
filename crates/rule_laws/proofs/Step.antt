-- A step, from what it changes: the rule is kept, and the item is a step of the model.
use Rattle.std.proofs.Common.{◌≡◌, ◌≢◌, ℕ, Bool, true, false, Some, refl, ap, sym, ◌∙◌, subst}
use Rattle.rendezvous_steps.specs.declared.steps.Kind.{Kind}
use Rattle.rendezvous_steps.specs.declared.steps.Kind.TheVariants.{Online, Offline, Absent}
use Rattle.rendezvous_steps.specs.declared.steps.Phase.{Phase}
use Rattle.rendezvous_steps.specs.declared.steps.Phase.TheVariants as phase
use Rattle.rendezvous_steps.specs.declared.steps.Local.{Local}
use Rattle.rendezvous_steps.specs.declared.steps.How.{How}
use Rattle.rendezvous_steps.specs.declared.steps.How.TheVariants as how
use Rattle.rendezvous_steps.specs.declared.operations.Op.{Op}
use Rattle.rendezvous_steps.specs.declared.items.What.{What}
use Rattle.rendezvous_steps.specs.declared.items.What.TheVariants as what
use Rattle.rendezvous_steps.specs.Plan.{Plan, Sound}
use Rattle.rendezvous_steps.specs.Padded.{Padded}
use Rattle.rendezvous_steps.specs.Words.{Families, families, touched, words_after}
use Rattle.rendezvous_steps.specs.StepTable.{operation, after}
use Rattle.rendezvous_steps.specs.Events.{Running, put, performs, steps}
use Rattle.rendezvous_model.specs.Round.{In, Stage, Gathering, State, nobody, is_gathering}
use Rattle.rendezvous_model.specs.RoundEnds.{MayWait}
use Rattle.rendezvous_model.specs.RoundStep.{Round}
use Rattle.rendezvous_rule.specs.Shown.{shown}
use Rattle.rendezvous_rule.specs.View.{View, Views, view, views, decides_in}
use Rattle.rendezvous_rule.specs.Seen.{seen, words_of}
use Rattle.rendezvous_rule.specs.Knows.{Knows, OnlineKnows, OfflineKnows}
use Rattle.rendezvous_rule.specs.Rule.{RuleBy, Gathered}
use Rattle.rule_laws.specs.Kept.{Kept, event_of, is_step}
use Rattle.rule_laws.proofs.Frame.{put_all, and_both, at_phase, is_at}
use Rattle.rule_laws.proofs.Tables.{put_view, views_put, same_view}
use Rattle.rule_laws.proofs.Later.{Later, later_same, still}
use Rattle.rule_laws.proofs.Assemble.{shown_is_seen}

-- A step, cut into its operation and what follows.

abbrev pub moved : Running → ℕ → Op → Local × What → Running × What
moved moment t op next =
    (record moment { words = words_after moment.words op; locals = put moment.locals t next.0 }, next.1)

pub stepped :
    (plan : Plan) (t : ℕ) (h : How) (moment : Running) (op : Op) (local : Local) (next : Local × What) →
    moment.locals t ≡ local →
    operation plan t local h ≡ Some op →
    after plan t local h (moment.words (touched op)) ≡ next → steps plan t h moment ≡ moved moment t op next
stepped plan t h moment op local next here e f =
    ap (performs plan t h moment) (ap (λ l. operation plan t l h) here ∙ e)
    ∙ ap (moved moment t op) (ap (λ l. after plan t l h (moment.words (touched op))) here ∙ f)

-- What a step of thread t changes: its view becomes new, the stage stage', and the state that the views make is the one
-- after, whatever is latched. The words afterwards are those of that state.
pub record Change (plan : Plan) (t : ℕ) (words' : Families) (v : Views) (new : View) (stage stage' : Stage)
    (next : (ℕ → Bool) → State) : Type 0 where
  pub sees : (latched : ℕ → Bool) → seen plan (put_view v t new) stage' latched ≡ next latched
  pub says : words' ≡ words_of plan (next nobody)
  pub gathered : Gathered plan (next nobody).arrived stage' (next nobody).is_decider
  pub later : Later t (seen plan v stage nobody) (next nobody)

-- who is in Deciding while the threads gather is the decider
decides_now :
    (plan : Plan) (locals : ℕ → Local) (first : Bool) (stage : Stage) (u : ℕ) →
    stage ≡ Gathering →
    (locals u).phase ≡ phase.Deciding → (seen plan (views plan first locals) stage nobody).is_decider u ≡ true
unfolding views
decides_now plan locals first stage u e f =
    and_both (is_gathering stage) (decides_in (locals u).phase) (ap is_gathering e) (ap decides_in f)

-- the rule after a change
rule_kept :
    (plan : Plan) (words words' : Families) (locals : ℕ → Local) (t : ℕ) (new : Local) (first first' : Bool)
    (stage stage' : Stage) (next : (ℕ → Bool) → State) →
    RuleBy plan words locals first stage →
    (t ≢ 0 → first' ≡ first) →
    Change plan t words' (views plan first locals) (view plan t first' new) stage stage' next →
    Knows (plan.kind t) plan t new (next nobody) → RuleBy plan words' (put locals t new) first' stage'
rule_kept plan words words' locals t new first first' stage stage' next rule same change knows =
    let sees : seen plan (views plan first' (put locals t new)) stage' nobody ≡ next nobody =
    ap (λ x. seen plan x stage' nobody) (views_put plan locals first first' t new same) ∙ change.sees nobody in
    record {
      says = change.says ∙ ap (words_of plan) (sym sees);
      gathered = subst (λ s. Gathered plan s.arrived stage' s.is_decider) (sym sees) change.gathered;
      knows = λ u.
          subst (λ s. Knows (plan.kind u) plan u (put locals t new u) s) (sym sees)
          (put_all (λ x l. Knows (plan.kind x) plan x l (next nobody)) locals t new knows
          (λ x other.
          still plan (plan.kind x) t x (locals x) _ _ change.later other
          (decides_now plan locals first stage x)
          (rule.knows x))
          u);
    }

-- A step keeps the rule, and its item is a step of the model, by its change, what the thread knows then, and the step
-- from
-- the state before to the state after. Whether thread 0 has arrived may be given anew by a step of thread 0.
pub step_kept :
    (plan : Plan) (moment : Running) (t : ℕ) (h : How) (op : Op) (local new : Local) (item : What)
    (first first' : Bool) (stage stage' : Stage) (next : (ℕ → Bool) → State) →
    Sound plan →
    Padded plan →
    RuleBy plan (families moment.words) moment.locals first stage →
    moment.locals t ≡ local →
    operation plan t local h ≡ Some op →
    after plan t local h (moment.words (touched op)) ≡ (new, item) →
    (t ≢ 0 → first' ≡ first) →
    Change plan t (families (words_after moment.words op)) (views plan first moment.locals)
    (view plan t first' new) stage stage' next →
    Knows (plan.kind t) plan t new (next nobody) →
    Round plan (seen plan (views plan first moment.locals) stage moment.latched) (event_of h t) item
    (next moment.latched) →
    Kept plan (event_of h t) moment (steps plan t h moment)
step_kept plan moment t h op local new item first first' stage stage' next sound padded rule here e f same change knows
    round =
    let words' = families (words_after moment.words op) in
    let locals' = put moment.locals t new in
    let rule' : RuleBy plan words' locals' first' stage' =
    rule_kept plan
    (families moment.words) words' moment.locals t new first first' stage stage' next rule same change knows in
    let before =
    shown_is_seen plan (families moment.words) moment.locals first stage moment.latched sound padded rule in
    let afterwards : shown plan words' locals' moment.latched ≡ next moment.latched =
    shown_is_seen plan words' locals' first' stage' moment.latched sound padded rule'
    ∙ ap (λ x. seen plan x stage' moment.latched) (views_put plan moment.locals first first' t new same)
    ∙ change.sees moment.latched in
    let there : Kept plan (event_of h t) moment (moved moment t op (new, item)) =
    record {
      rule = record { first = first'; stage = stage'; by = rule' };
      round =
          subst (λ s. Round plan s (event_of h t) item (shown plan words' locals' moment.latched)) (sym before)
          (subst
          (λ s. Round plan (seen plan (views plan first moment.locals) stage moment.latched) (event_of h t) item s)
          (sym afterwards) round);
    } in
    subst (λ x. Kept plan (event_of h t) moment x) (sym (stepped plan t h moment op local (new, item) here e f)) there

-- A step that changes no word, and of whose view the state shows nothing new.
pub unseen_kept :
    (plan : Plan) (moment : Running) (t : ℕ) (h : How) (op : Op) (local new : Local) (item : What)
    (first first' : Bool) (stage : Stage) →
    Sound plan →
    Padded plan →
    RuleBy plan (families moment.words) moment.locals first stage →
    moment.locals t ≡ local →
    operation plan t local h ≡ Some op →
    after plan t local h (moment.words (touched op)) ≡ (new, item) →
    (t ≢ 0 → first' ≡ first) →
    ((latched : ℕ → Bool) →
    seen plan (put_view (views plan first moment.locals) t (view plan t first' new)) stage latched
    ≡ seen plan (views plan first moment.locals) stage latched) →
    families (words_after moment.words op) ≡ families moment.words →
    Knows (plan.kind t) plan t new (seen plan (views plan first moment.locals) stage nobody) →
    Round plan (seen plan (views plan first moment.locals) stage moment.latched) (event_of h t) item
    (seen plan (views plan first moment.locals) stage moment.latched) →
    Kept plan (event_of h t) moment (steps plan t h moment)
unseen_kept plan moment t h op local new item first first' stage sound padded rule here e f same sees words knows
    round =
    step_kept plan moment t h op local new item first first' stage stage
    (λ latched. seen plan (views plan first moment.locals) stage latched)
    sound padded rule here e f same
    (record {
      sees = sees;
      says = words ∙ rule.says;
      gathered = rule.gathered;
      later = later_same t (seen plan (views plan first moment.locals) stage nobody);
    })
    knows
    round

-- A step that changes no word, and whose view stays.
pub quiet_kept :
    (plan : Plan) (moment : Running) (t : ℕ) (h : How) (op : Op) (local new : Local) (item : What)
    (first first' : Bool) (stage : Stage) →
    Sound plan →
    Padded plan →
    RuleBy plan (families moment.words) moment.locals first stage →
    moment.locals t ≡ local →
    operation plan t local h ≡ Some op →
    after plan t local h (moment.words (touched op)) ≡ (new, item) →
    (t ≢ 0 → first' ≡ first) →
    view plan t first' new ≡ view plan t first local →
    families (words_after moment.words op) ≡ families moment.words →
    Knows (plan.kind t) plan t new (seen plan (views plan first moment.locals) stage nobody) →
    Round plan (seen plan (views plan first moment.locals) stage moment.latched) (event_of h t) item
    (seen plan (views plan first moment.locals) stage moment.latched) →
    Kept plan (event_of h t) moment (steps plan t h moment)
unfolding views
quiet_kept plan moment t h op local new item first first' stage sound padded rule here e f same view_stays words knows
    round =
    unseen_kept plan moment t h op local new item first first' stage sound padded rule here e f same
    (λ latched.
    ap (λ x. seen plan x stage latched)
    (same_view (views plan first moment.locals) t (view plan t first' new)
    (view_stays ∙ ap (view plan t first) (sym here))))
    words
    knows
    round

-- what nobody else sees, and a poll, are steps of the model that change nothing
pub inner_round :
    (plan : Plan) (t : ℕ) (h : How) (s : State) →
    is_step h ≡ true → s.place t ≡ In → Round plan s (event_of h t) what.Inner s
inner_round plan t how.Step s own is_in = (refl, record { is_in = is_in; change = refl })
inner_round plan t how.Timeout s own is_in = (refl, record { is_in = is_in; change = refl })
inner_round plan t how.Nmi s own is_in = cc

pub poll_round :
    (plan : Plan) (t : ℕ) (h : How) (s : State) →
    is_step h ≡ true → MayWait plan t s → Round plan s (event_of h t) what.Poll s
poll_round plan t how.Step s own may = (refl, record { may = may; change = refl })
poll_round plan t how.Timeout s own may = (refl, record { may = may; change = refl })
poll_round plan t how.Nmi s own may = cc

-- A step inside the handler that nobody else sees.
pub inner_kept :
    (plan : Plan) (moment : Running) (t : ℕ) (h : How) (op : Op) (local new : Local) (first first' : Bool)
    (stage : Stage) →
    Sound plan →
    Padded plan →
    RuleBy plan (families moment.words) moment.locals first stage →
    is_step h ≡ true →
    moment.locals t ≡ local →
    operation plan t local h ≡ Some op →
    after plan t local h (moment.words (touched op)) ≡ (new, what.Inner) →
    (t ≢ 0 → first' ≡ first) →
    view plan t first' new ≡ view plan t first local →
    families (words_after moment.words op) ≡ families moment.words →
    Knows (plan.kind t) plan t new (seen plan (views plan first moment.locals) stage nobody) →
    (seen plan (views plan first moment.locals) stage nobody).place t ≡ In →
    Kept plan (event_of h t) moment (steps plan t h moment)
inner_kept plan moment t h op local new first first' stage sound padded rule own here e f same view_stays words knows
    is_in =
    quiet_kept plan moment t h op local new what.Inner first first' stage sound padded rule here e f same view_stays
    words knows
    (inner_round plan t h _ own is_in)

-- A poll: the thread counts it, and nothing else changes.
pub poll_kept :
    (plan : Plan) (moment : Running) (t : ℕ) (h : How) (op : Op) (local new : Local) (first : Bool) (stage : Stage) →
    Sound plan →
    Padded plan →
    RuleBy plan (families moment.words) moment.locals first stage →
    is_step h ≡ true →
    moment.locals t ≡ local →
    operation plan t local h ≡ Some op →
    after plan t local h (moment.words (touched op)) ≡ (new, what.Poll) →
    view plan t first new ≡ view plan t first local →
    families (words_after moment.words op) ≡ families moment.words →
    Knows (plan.kind t) plan t new (seen plan (views plan first moment.locals) stage nobody) →
    MayWait plan t (seen plan (views plan first moment.locals) stage moment.latched) →
    Kept plan (event_of h t) moment (steps plan t h moment)
poll_kept plan moment t h op local new first stage sound padded rule own here e f view_stays words knows may =
    quiet_kept plan moment t h op local new what.Poll first first stage sound padded rule here e f
    (λ other. refl) view_stays words knows
    (poll_round plan t h _ own may)

-- Where a thread stands.

-- a phase that only an Online thread has
abbrev pub is_online_phase : Phase → Bool
is_online_phase phase.Outside = false
is_online_phase phase.OfflineCount = false
is_online_phase phase.OfflineHold = false
is_online_phase phase.Leaving = false
is_online_phase phase.Left = false
is_online_phase phase.Halted = false
is_online_phase phase.Withdrawn = false
is_online_phase phase.Nothing = false
is_online_phase p = true

-- an Online thread in a phase, with what it knows
pub record Stands (p : Phase) (plan : Plan) (t : ℕ) (local : Local) (s : State) : Type 0 where
  pub here : local ≡ at_phase p local.at local.polls local.mine
  pub online : plan.kind t ≡ Online
  pub row : OnlineKnows p plan t local.at local.mine s

online_row :
    (p : Phase) (plan : Plan) (t : ℕ) (local : Local) (s : State) (kind : Kind) →
    local.phase ≡ p → is_online_phase p ≡ true → Knows kind plan t local s →
    (kind ≡ Online) × OnlineKnows p plan t local.at local.mine s
online_row p plan t local s Online e own knows =
    (refl, subst (λ x. OnlineKnows x plan t local.at local.mine s) e knows)
online_row p plan t local s Offline e own knows =
    absurd (never p own (subst (λ x. OfflineKnows x t local.mine s) e knows))
  where
    never : (x : Phase) → is_online_phase x ≡ true → OfflineKnows x t local.mine s → ⊥
    never phase.Outside f row = cc
    never phase.OfflineCount f row = cc
    never phase.OfflineHold f row = cc
    never phase.Leaving f row = cc
    never phase.Left f row = cc
    never phase.Halted f row = cc
    never phase.Withdrawn f row = cc
    never x f row = row
online_row p plan t local s Absent e own knows = absurd (never p own (sym e ∙ knows))
  where
    never : (x : Phase) → is_online_phase x ≡ true → x ≡ phase.Nothing → ⊥
    never x f g = let same : false ≡ true = ap is_online_phase (sym g) ∙ f in cc

pub stands_in :
    (p : Phase) (plan : Plan) (words : Families) (locals : ℕ → Local) (first : Bool) (stage : Stage) (t : ℕ) →
    RuleBy plan words locals first stage →
    (locals t).phase ≡ p → is_online_phase p ≡ true →
    Stands p plan t (locals t) (seen plan (views plan first locals) stage nobody)
stands_in p plan words locals first stage t rule e own =
    let s = seen plan (views plan first locals) stage nobody in
    let both = online_row p plan t (locals t) s (plan.kind t) e own (rule.knows t) in
    record { here = is_at (locals t) p e; online = both.0; row = both.1 }
