-- The thread that arrived last decides: it goes, or finds that another dropped.
use Rattle.std.proofs.Common.{◌≡◌, ◌≢◌, ℕ, Bool, true, false, ◌||◌, ◌==◌, if◌then◌else◌, refl, ap, sym, ◌∙◌, subst}
use Rattle.rendezvous_steps.specs.declared.steps.Kind.TheVariants.{Online}
use Rattle.rendezvous_steps.specs.declared.steps.Phase.TheVariants as phase
use Rattle.rendezvous_steps.specs.declared.steps.Local.{Local}
use Rattle.rendezvous_steps.specs.declared.steps.How.{How}
use Rattle.rendezvous_steps.specs.declared.steps.How.TheVariants as how
use Rattle.rendezvous_steps.specs.declared.operations.Word.TheVariants as word
use Rattle.rendezvous_steps.specs.declared.operations.Op.TheVariants.{Cas}
use Rattle.rendezvous_steps.specs.declared.items.What.TheVariants as what
use Rattle.rendezvous_steps.specs.Plan.{Plan, Sound}
use Rattle.rendezvous_steps.specs.Padded.{Padded}
use Rattle.rendezvous_steps.specs.Words.{Families, families}
use Rattle.rendezvous_steps.specs.StepTable.{operation, after, go_path, drop_path}
use Rattle.rendezvous_steps.specs.Events.{Running, put, steps}
use Rattle.rendezvous_model.specs.Round.{Stage, Gathering, Going, DroppedByKick, DroppedBy, nobody, is_dropped}
use Rattle.rendezvous_model.specs.RoundItems.{Goes}
use Rattle.rendezvous_rule.specs.View.{View, view, views}
use Rattle.rendezvous_rule.specs.Seen.{seen, words_of}
use Rattle.rendezvous_rule.specs.Knows.{Knows}
use Rattle.rendezvous_rule.specs.Rule.{RuleBy}
use Rattle.rule_laws.specs.Kept.{Kept, event_of, is_step}
use Rattle.rule_laws.proofs.Frame.{at_phase}
use Rattle.rule_laws.proofs.Tables.{only_deciding}
use Rattle.rule_laws.proofs.Later.{later_stage}
use Rattle.rule_laws.proofs.Step.{step_kept, unseen_kept, inner_round, stands_in}
use Rattle.rule_laws.proofs.Facts.{state, view_is, is_inside, own_round}
use Rattle.round_laws.proofs.Kind.{KeepsTheRule}
use Rattle.round_laws.proofs.Found.{cas_keeps, dropped_not_0, not_taken}
use Rattle.round_laws.proofs.Paths.{go_view, go_row, drop_arrived, drop_row, given_anew}

-- the threads gather: it goes
goes_kept :
    (plan : Plan) (moment : Running) (t : ℕ) (h : How) (first : Bool) (at polls mine : ℕ) →
    Sound plan →
    Padded plan →
    RuleBy plan (families moment.words) moment.locals first Gathering →
    is_step h ≡ true →
    moment.locals t ≡ at_phase phase.Deciding at polls mine →
    plan.kind t ≡ Online → Kept plan (event_of h t) moment (steps plan t h moment)
unfolding operation after words_of views
goes_kept plan moment t h first at polls mine sound padded rule own here online =
    let local = at_phase phase.Deciding at polls mine in
    let new = go_path plan t local in
    let v = views plan first moment.locals in
    let s = λ (latched : ℕ → Bool). seen plan v Gathering latched in
    let next = λ (latched : ℕ → Bool). record (s latched) { stage = Going; is_decider = nobody } in
    let found : moment.words word.Decide ≡ 0 = ap (λ (w : Families). w.decide) rule.says in
    let decides : v.deciding t ≡ true = ap (λ (w : View). w.deciding) (view_is plan moment.locals first t local here) in
    let goes : Goes t (s moment.latched) (next moment.latched) =
    record {
      gathering = refl;
      is_in = is_inside plan moment.locals first Gathering moment.latched t local here refl;
      decides = decides;
      change = refl;
    } in
    step_kept plan moment t h (Cas word.Decide 0 1) local new what.Go first first Gathering Going next
    sound padded rule here refl (ap (after plan t local h) found) (λ other. refl)
    (record {
      sees = λ latched.
          ap (λ x. seen plan x Going latched)
          (only_deciding v t (view plan t first new) false
          (go_view plan t first local
          ∙ ap (λ (w : View). record w { deciding = false }) (sym (view_is plan moment.locals first t local here))));
      says =
          ap (λ d. record (families moment.words) { decide = if d == 0 then 1 else d }) found
          ∙ ap (λ (w : Families). record w { decide = 1 }) rule.says;
      gathered =
          record {
            zero_last = rule.gathered.zero_last;
            decides_last = λ u e. cc;
            one_decides = λ u w e. cc;
            somebody_decides = λ e. cc;
            go_after_all = λ e. rule.gathered.decides_last t decides;
            kick_dropped = λ e. cc;
            dropped_by_online = λ u e. cc;
            zero_dropped = λ e. cc;
          };
      later =
          later_stage t (state plan first moment.locals Gathering) Going nobody refl
          (λ e u f. rule.gathered.one_decides u t f decides);
    })
    (subst (λ kind. Knows kind plan t new (next nobody)) (sym online) (go_row plan t local (next nobody) refl))
    (own_round plan t h (s moment.latched) (next moment.latched) what.Go own (refl, goes) (refl, goes))

-- another dropped
finds_drop :
    (plan : Plan) (moment : Running) (t : ℕ) (h : How) (first : Bool) (stage : Stage) (at polls mine : ℕ) →
    Sound plan →
    Padded plan →
    RuleBy plan (families moment.words) moment.locals first stage →
    is_step h ≡ true →
    is_dropped stage ≡ true →
    moment.locals t ≡ at_phase phase.Deciding at polls mine →
    plan.kind t ≡ Online → Kept plan (event_of h t) moment (steps plan t h moment)
unfolding operation after words_of views
finds_drop plan moment t h first stage at polls mine sound padded rule own dropped here online =
    let local = at_phase phase.Deciding at polls mine in
    let new = drop_path plan t local in
    let v = views plan first moment.locals in
    let found : (moment.words word.Decide == 0) ≡ false =
    ap (λ (w : Families). w.decide == 0) rule.says ∙ dropped_not_0 stage dropped in
    unseen_kept plan moment t h (Cas word.Decide 0 1) local new what.Inner first ((t == 0) || first) stage
    sound padded rule here refl
    (not_taken (moment.words word.Decide == 0) (go_path plan t local, what.Go) (new, what.Inner) found)
    (given_anew t first)
    (λ latched.
    ap (λ x. seen plan x stage latched)
    (only_deciding v t (view plan t ((t == 0) || first) new) false
    (drop_arrived plan t first local padded
    ∙ ap (λ (w : View). record w { deciding = false }) (sym (view_is plan moment.locals first t local here))))
    ∙ decides_nothing plan first moment.locals stage latched (put v.deciding t false) dropped)
    (cas_keeps moment.words word.Decide 0 1 found)
    (subst (λ kind. Knows kind plan t new (state plan first moment.locals stage)) (sym online)
    (drop_row plan t local (state plan first moment.locals stage) dropped))
    (inner_round plan t h _ own (is_inside plan moment.locals first stage moment.latched t local here refl))
  where
    decides_nothing :
        (plan : Plan) (first : Bool) (locals : ℕ → Local) (stage : Stage) (latched : ℕ → Bool) (table : ℕ → Bool) →
        is_dropped stage ≡ true →
        (let v = views plan first locals in
        seen plan (record v { deciding = table }) stage latched ≡ seen plan v stage latched)
    decides_nothing plan first locals Gathering latched table e = cc
    decides_nothing plan first locals Going latched table e = cc
    decides_nothing plan first locals DroppedByKick latched table e = refl
    decides_nothing plan first locals (DroppedBy t) latched table e = refl

decides_by :
    (plan : Plan) (moment : Running) (t : ℕ) (h : How) (first : Bool) (stage : Stage) (at polls mine : ℕ) →
    Sound plan →
    Padded plan →
    RuleBy plan (families moment.words) moment.locals first stage →
    is_step h ≡ true →
    stage ≢ Going →
    moment.locals t ≡ at_phase phase.Deciding at polls mine →
    plan.kind t ≡ Online → Kept plan (event_of h t) moment (steps plan t h moment)
decides_by plan moment t h first Gathering at polls mine sound padded rule own not_yet here online =
    goes_kept plan moment t h first at polls mine sound padded rule own here online
decides_by plan moment t h first Going at polls mine sound padded rule own not_yet here online = absurd (not_yet refl)
decides_by plan moment t h first DroppedByKick at polls mine sound padded rule own not_yet here online =
    finds_drop plan moment t h first DroppedByKick at polls mine sound padded rule own refl here online
decides_by plan moment t h first (DroppedBy u) at polls mine sound padded rule own not_yet here online =
    finds_drop plan moment t h first (DroppedBy u) at polls mine sound padded rule own refl here online

deciding_kept : (h : How) → is_step h ≡ true → KeepsTheRule phase.Deciding h
unfolding KeepsTheRule
deciding_kept h own plan moment t sound padded rule phase_is =
    let l = moment.locals t in
    let at_thread =
    stands_in phase.Deciding plan (families moment.words) moment.locals rule.first rule.stage t rule.by phase_is refl in
    decides_by plan moment t h rule.first rule.stage l.at l.polls l.mine sound padded rule.by own at_thread.row
    at_thread.here at_thread.online

pub deciding_step : KeepsTheRule phase.Deciding how.Step
deciding_step = deciding_kept how.Step refl

pub deciding_timeout : KeepsTheRule phase.Deciding how.Timeout
deciding_timeout = deciding_kept how.Timeout refl
