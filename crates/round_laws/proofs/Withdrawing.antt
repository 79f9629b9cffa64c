-- Thread 0 after a drop: it takes back the kick of each Offline thread, and releases those that came.
use Rattle.std.proofs.Common.{◌≡◌, ◌≢◌, ◌⊎◌, ℕ, ◌+◌, Bool, true, false, ◌&&◌, ◌||◌, ◌==◌, nat_lt, if◌then◌else◌, Option, Some, None, refl, ap, sym, ◌∙◌, subst, inl, inr, true≢false}
use mathlib.Core.Path.{fun_ext}
use Rattle.rendezvous_steps.specs.declared.steps.Kind.{Kind}
use Rattle.rendezvous_steps.specs.declared.steps.Kind.TheVariants.{Online, Offline}
use Rattle.rendezvous_steps.specs.declared.steps.Phase.{Phase}
use Rattle.rendezvous_steps.specs.declared.steps.Phase.TheVariants as phase
use Rattle.rendezvous_steps.specs.declared.steps.Local.{Local}
use Rattle.rendezvous_steps.specs.declared.steps.How.{How}
use Rattle.rendezvous_steps.specs.declared.steps.How.TheVariants as how
use Rattle.rendezvous_steps.specs.declared.operations.Word.TheVariants as word
use Rattle.rendezvous_steps.specs.declared.operations.Op.TheVariants.{Cas}
use Rattle.rendezvous_steps.specs.declared.items.What.TheVariants as what
use Rattle.rendezvous_steps.specs.Plan.{Plan, Sound, is_offline, offline_from}
use Rattle.rendezvous_steps.specs.Padded.{Padded}
use Rattle.rendezvous_steps.specs.Words.{Families, families}
use Rattle.rendezvous_steps.specs.StepTable.{operation, after, withdraw_at}
use Rattle.rendezvous_steps.specs.Events.{Running, put, steps}
use Rattle.rendezvous_model.specs.Round.{Place, Out, In, Left, Halted, Withdrawn, Absent, Waiting, Reported, Stage, Going, State, nobody, is_dropped}
use Rattle.rendezvous_model.specs.RoundItems.{Withdraws, Frees}
use Rattle.rendezvous_rule.specs.View.{View, view, views, place_in}
use Rattle.rendezvous_rule.specs.Seen.{seen, words_of, place_seen, freed_seen, mode_code, ctrl_code, nmi_code, release_code, writes_now}
use Rattle.rendezvous_rule.specs.Knows.{Knows, OfflineKnows, has_come, report_of}
use Rattle.rendezvous_rule.specs.Rule.{RuleBy}
use Rattle.rule_laws.specs.Kept.{Kept, event_of, is_step}
use Rattle.rule_laws.proofs.Frame.{at_phase, coded, code_kept, put_back, and_false, and_both, not_itself, not_so, another_kind}
use Rattle.rule_laws.proofs.Tables.{put_view, only_settles, sees_settles}
use Rattle.rule_laws.proofs.Later.{later_place, later_freed}
use Rattle.rule_laws.proofs.Step.{step_kept, unseen_kept, inner_kept, inner_round, stands_in}
use Rattle.rule_laws.proofs.Loops.{past, offline_goes_on, offline_found}
use Rattle.rule_laws.proofs.Safety.{waits_or_not}
use Rattle.rule_laws.proofs.Facts.{state, view_is, is_inside, own_round, begun_going, frees_reported}
use Rattle.round_laws.proofs.Kind.{KeepsTheRule}
use Rattle.round_laws.proofs.Found.{cas_keeps}
use Rattle.round_laws.proofs.Freeing.{unfreed}

-- What others see of it: whom it is done with.

settles_view :
    (plan : Plan) (first : Bool) (k polls : ℕ) (next : Option ℕ) →
    view plan 0 first (withdraw_at (at_phase phase.Withdrawing k polls 5) next)
    ≡ record
    (view plan 0 first (at_phase phase.Withdrawing k polls 5)) {
      settles = λ u. is_offline
          (plan.kind u) && past next u;
    }
settles_view plan first k polls (Some l) = refl
settles_view plan first k polls None = refl

releases_view :
    (plan : Plan) (first : Bool) (k polls : ℕ) (next : Option ℕ) →
    view plan 0 first (withdraw_at (at_phase phase.Releasing k polls 5) next)
    ≡ record
    (view plan 0 first (at_phase phase.Releasing k polls 5)) { settles = λ u. is_offline (plan.kind u) && past next u }
releases_view plan first k polls (Some l) = refl
releases_view plan first k polls None = refl

-- What it knows then.

settles_row :
    (plan : Plan) (k polls : ℕ) (next : Option ℕ) (s : State) →
    offline_from plan (k + 1) ≡ next →
    is_dropped s.stage ≡ true → Knows Online plan 0 (withdraw_at (at_phase phase.Withdrawing k polls 5) next) s
settles_row plan k polls (Some l) s e dropped = ((refl, offline_found plan (k + 1) l e), dropped, refl)
settles_row plan k polls None s e dropped = dropped

releases_row :
    (plan : Plan) (k polls : ℕ) (next : Option ℕ) (s : State) →
    offline_from plan (k + 1) ≡ next →
    is_dropped s.stage ≡ true → Knows Online plan 0 (withdraw_at (at_phase phase.Releasing k polls 5) next) s
releases_row plan k polls (Some l) s e dropped = ((refl, offline_found plan (k + 1) l e), dropped, refl)
releases_row plan k polls None s e dropped = dropped

-- Where an Offline thread is that thread 0 is not done with.

raw_place : (place x : Place) (z : Bool) → z ≡ false → place_seen place z ≡ x → place ≡ x
raw_place place x z e f = sym (unsettled_place place z e) ∙ f
  where
    unsettled_place : (place : Place) (z : Bool) → z ≡ false → place_seen place z ≡ place
    unsettled_place Out z e = ap (place_seen Out) e
    unsettled_place In z e = refl
    unsettled_place (Left x) z e = refl
    unsettled_place Halted z e = refl
    unsettled_place Withdrawn z e = refl
    unsettled_place Absent z e = refl

out_or_come :
    (p : Phase) (t mine : ℕ) (s : State) (z : Bool) →
    OfflineKnows p t mine s →
    z ≡ false →
    (place_seen (place_in p mine) z ≡ Out) ⊎ (has_come (place_seen (place_in p mine) z) ≡ true)
out_or_come phase.Outside t mine s z knows e = inl (ap (place_seen Out) e)
out_or_come phase.OfflineCount t mine s z knows e = inr refl
out_or_come phase.OfflineHold t mine s z knows e = inr refl
out_or_come phase.Leaving t mine s z knows e = inr refl
out_or_come phase.Left t mine s z knows e = inr refl
out_or_come phase.Halted t mine s z knows e = inr refl
out_or_come phase.Withdrawn t mine s z knows e = inl (ap (place_seen Out) e)
out_or_come p t mine s z knows e = absurd knows

not_come : (z : Bool) → has_come (place_seen Out z) ≡ true → ⊥
not_come true e = cc
not_come false e = cc

-- one that came, and was not freed, is inside, or has halted
in_or_halted :
    (p : Phase) (t mine : ℕ) (s : State) (z : Bool) →
    OfflineKnows p t mine s →
    s.freed t ≡ false →
    has_come (place_seen (place_in p mine) z) ≡ true →
    (place_seen (place_in p mine) z ≡ In) ⊎ (place_seen (place_in p mine) z ≡ Halted)
in_or_halted phase.Outside t mine s z knows freed come = absurd (not_come z come)
in_or_halted phase.OfflineCount t mine s z knows freed come = inl refl
in_or_halted phase.OfflineHold t mine s z knows freed come = inl refl
in_or_halted phase.Leaving t mine s z knows freed come = inl refl
in_or_halted phase.Left t mine s z knows freed come = absurd (true≢false (sym knows.1 ∙ freed))
in_or_halted phase.Halted t mine s z knows freed come = inr refl
in_or_halted phase.Withdrawn t mine s z knows freed come = absurd (not_come z come)
in_or_halted p t mine s z knows freed come = absurd knows

come_code : (place : Place) → has_come place ≡ true → nmi_code Offline true place ≡ 2
come_code Out e = cc
come_code In e = refl
come_code (Left x) e = refl
come_code Halted e = refl
come_code Withdrawn e = cc
come_code Absent e = cc

-- What both steps have in common, where the loop is at k in this phase.
record Settling (plan : Plan) (words : Families) (locals : ℕ → Local) (first : Bool) (stage : Stage)
    (k : ℕ) : Type 0 where
  unsettled : (views plan first locals).settles 0 k ≡ false
  grown :
      (λ (u : ℕ). is_offline (plan.kind u) && past (offline_from plan (k + 1)) u)
      ≡ put ((views plan first locals).settles 0) k true
  kicked : (views plan first locals).kicks 0 k ≡ true
  -- after a drop no primary has freed anybody
  unfreed : (views plan first locals).frees (plan.primary (plan.group k)) k ≡ false
  waits : (state plan first locals stage).group (plan.group k) ≡ Waiting

dropped_not_going : (stage : Stage) → is_dropped stage ≡ true → stage ≢ Going
dropped_not_going stage e f = true≢false (sym e ∙ ap is_dropped f)

settling :
    (plan : Plan) (words : Families) (locals : ℕ → Local) (first : Bool) (stage : Stage) (k : ℕ) (local : Local) →
    Sound plan →
    Padded plan →
    RuleBy plan words locals first stage →
    locals 0 ≡ local →
    (view plan 0 first local).settles ≡ (λ u. is_offline (plan.kind u) && nat_lt u k) →
    (view plan 0 first local).kicks k ≡ true →
    plan.kind k ≡ Offline → is_dropped stage ≡ true → Settling plan words locals first stage k
settling plan words locals first stage k local sound padded rule here settles kicks offline dropped =
    let v = views plan first locals in
    let s = state plan first locals stage in
    let was : v.settles 0 ≡ (λ u. is_offline (plan.kind u) && nat_lt u k) =
    ap (λ (w : View). w.settles) (view_is plan locals first 0 local here) ∙ settles in
    let not_begun : (g : ℕ) → s.group g ≡ Waiting =
    λ g.
    elim (waits_or_not (s.group g)) [
      | inl waits ↦ waits
      | inr begun ↦
          absurd (dropped_not_going stage dropped (begun_going plan words locals first stage g sound padded rule begun))
    ] in
    record {
      unsettled = ap (λ f. f k) was ∙ and_false (is_offline (plan.kind k)) (nat_lt k k) (not_itself k);
      grown =
          fun_ext (offline_goes_on plan k (offline_from plan (k + 1)) padded offline refl)
          ∙ ap (λ table. put table k true) (sym was);
      kicked = ap (λ (w : View). w.kicks k) (view_is plan locals first 0 local here) ∙ kicks;
      unfreed =
          not_so (v.frees (plan.primary (plan.group k)) k)
          (λ f.
          let reported = frees_reported plan words locals first stage k sound padded rule f in
          let same : Waiting ≡ Reported (report_of plan (plan.group k)) =
          sym (not_begun (plan.group k)) ∙ reported in cc);
      waits = not_begun (plan.group k);
    }

settles_sees :
    (plan : Plan) (locals : ℕ → Local) (first : Bool) (stage : Stage) (latched : ℕ → Bool) (k : ℕ) (local : Local)
    (set : ℕ → Bool) →
    (let v = views plan first locals in
    let s = seen plan v stage latched in
    locals 0 ≡ local →
    set ≡ put (v.settles 0) k true →
    seen plan (put_view v 0 (record (view plan 0 first local) { settles = set })) stage latched
    ≡ record s {
      place = put s.place k (place_seen (v.place k) true);
      freed = put s.freed k (freed_seen (v.place k) (v.frees (plan.primary (plan.group k)) k) true);
    })
settles_sees plan locals first stage latched k local set here grown =
    let v = views plan first locals in
    ap (λ x. seen plan x stage latched)
    (only_settles v 0 (record (view plan 0 first local) { settles = set }) set
    (ap (λ (w : View). record w { settles = set }) (sym (view_is plan locals first 0 local here)))
    ∙ ap (λ f. record v { settles = put v.settles 0 f }) grown)
    ∙ sees_settles plan v stage latched k

-- the words, where the code of its place stays in all but its kick
withdrawn_mode :
    (kind : Kind) (writes : Bool) → kind ≡ Offline → mode_code kind writes Withdrawn ≡ mode_code kind writes Out
withdrawn_mode kind writes e = ap (λ k. mode_code k writes Withdrawn) e ∙ sym (ap (λ k. mode_code k writes Out) e)

withdrawn_says :
    (plan : Plan) (s : State) (k : ℕ) →
    plan.kind k ≡ Offline →
    s.place k ≡ Out →
    3 ≡ nmi_code (plan.kind k) (s.kicked k) Withdrawn →
    record (words_of plan s) { nmi = put (words_of plan s).nmi k 3 }
    ≡ words_of plan (record s { place = put s.place k Withdrawn })
unfolding words_of
withdrawn_says plan s k offline out code =
    let modes : (λ (u : ℕ). mode_code (plan.kind u) (writes_now plan u s.group) (put s.place k Withdrawn u))
    ≡ (λ u. mode_code (plan.kind u) (writes_now plan u s.group) (s.place u)) =
    code_kept (λ u p. mode_code (plan.kind u) (writes_now plan u s.group) p) s.place k Withdrawn
    (withdrawn_mode (plan.kind k) (writes_now plan k s.group) offline
    ∙ ap (mode_code (plan.kind k) (writes_now plan k s.group)) (sym out)) in
    let ctrls : (λ (u : ℕ). ctrl_code (put s.place k Withdrawn u) (s.freed u) (s.group (plan.group u)))
    ≡ (λ u. ctrl_code (s.place u) (s.freed u) (s.group (plan.group u))) =
    code_kept (λ u p. ctrl_code p (s.freed u) (s.group (plan.group u))) s.place k Withdrawn
    (ap (λ p. ctrl_code p (s.freed k) (s.group (plan.group k))) (sym out)) in
    λ i. record (words_of plan s) {
      mode = (sym modes) i;
      ctrl = (sym ctrls) i;
      nmi = coded (λ u p. nmi_code (plan.kind u) (s.kicked u) p) s.place k Withdrawn 3 code i;
    }

-- The kick stands: it is taken back.
withdraw_kept :
    (plan : Plan) (moment : Running) (h : How) (first : Bool) (stage : Stage) (k polls : ℕ) →
    Sound plan →
    Padded plan →
    RuleBy plan (families moment.words) moment.locals first stage →
    is_step h ≡ true →
    moment.locals 0 ≡ at_phase phase.Withdrawing k polls 5 →
    plan.kind k ≡ Offline →
    is_dropped stage ≡ true →
    (state plan first moment.locals stage).place k ≡ Out → Kept plan (event_of h 0) moment (steps plan 0 h moment)
unfolding operation after put words_of
withdraw_kept plan moment h first stage k polls sound padded rule own here offline dropped out =
    let local = at_phase phase.Withdrawing k polls 5 in
    let to_next = offline_from plan (k + 1) in
    let new = withdraw_at local to_next in
    let v = views plan first moment.locals in
    let s = λ (latched : ℕ → Bool). seen plan v stage latched in
    let next = λ (latched : ℕ → Bool). record (s latched) { place = put (s latched).place k Withdrawn } in
    let c = settling plan (families moment.words) moment.locals first stage k local sound padded rule here refl
    (and_both (is_offline (plan.kind k)) true (ap is_offline offline) refl) offline dropped in
    let raw : v.place k ≡ Out = raw_place (v.place k) Out (v.settles 0 k) c.unsettled out in
    let found : moment.words (word.Nmi k) ≡ 1 =
    ap (λ (w : Families). w.nmi k) rule.says
    ∙ ap (λ kind. nmi_code kind ((s nobody).kicked k) ((s nobody).place k)) offline
    ∙ ap (λ b. nmi_code Offline b ((s nobody).place k)) c.kicked
    ∙ ap (nmi_code Offline true) out in
    let code : 3 ≡ nmi_code (plan.kind k) ((s nobody).kicked k) Withdrawn =
    sym
    (ap (λ kind. nmi_code kind ((s nobody).kicked k) Withdrawn) offline
    ∙ ap (λ b. nmi_code Offline b Withdrawn) c.kicked) in
    let withdraws : Withdraws 0 k (s moment.latched) (next moment.latched) =
    record {
      dropped = dropped;
      by_zero = refl;
      is_in = is_inside plan moment.locals first stage moment.latched 0 local here refl;
      was_kicked = c.kicked;
      is_out = out;
      change = refl;
    } in
    step_kept plan moment 0 h (Cas (word.Nmi k) 1 3) local new (what.Withdraw k) first first stage stage next
    sound padded rule here refl
    (ap (after plan 0 local h) found)
    (λ other. refl)
    (record {
      sees = λ latched.
          ap (λ w. seen plan (put_view v 0 w) stage latched) (settles_view plan first k polls to_next)
          ∙ settles_sees plan moment.locals first stage latched k local
          (λ u. is_offline (plan.kind u) && past to_next u) here c.grown
          ∙ ap
          (λ p. record
          (s latched) {
            place = put (s latched).place k (place_seen p true);
            freed = put (s latched).freed k
                (freed_seen p (v.frees (plan.primary (plan.group k)) k) true);
          }) raw
          ∙ ap (λ f. record (s latched) { place = put (s latched).place k Withdrawn; freed = f })
          (put_back (s latched).freed k (v.frees (plan.primary (plan.group k)) k)
          (sym (ap (λ p. freed_seen p (v.frees (plan.primary (plan.group k)) k) (v.settles 0 k)) raw)));
      says =
          ap (λ n. record (families moment.words)
          { nmi = put (families moment.words).nmi k (if n == 1 then 3 else n) }) found
          ∙ ap (λ (w : Families). record w { nmi = put w.nmi k 3 }) rule.says
          ∙ withdrawn_says plan (s nobody) k offline out code;
      gathered = rule.gathered;
      later =
          later_place 0 (s nobody) k Withdrawn (λ e. let same : false ≡ true = ap has_come (sym out) ∙ e in cc)
          (λ e. refl);
    })
    (subst (λ kind. Knows kind plan 0 new (next nobody)) (sym sound.thread_0_is_online)
    (settles_row plan k polls to_next (next nobody) refl dropped))
    (own_round plan 0 h (s moment.latched) (next moment.latched) (what.Withdraw k) own (refl, withdraws)
    (refl, withdraws))

-- It has come: thread 0 turns to its release.
came_kept :
    (plan : Plan) (moment : Running) (h : How) (first : Bool) (stage : Stage) (k polls : ℕ) →
    Sound plan →
    Padded plan →
    RuleBy plan (families moment.words) moment.locals first stage →
    is_step h ≡ true →
    moment.locals 0 ≡ at_phase phase.Withdrawing k polls 5 →
    plan.kind k ≡ Offline →
    is_dropped stage ≡ true →
    has_come ((state plan first moment.locals stage).place k) ≡ true →
    Kept plan (event_of h 0) moment (steps plan 0 h moment)
unfolding operation after words_of
came_kept plan moment h first stage k polls sound padded rule own here offline dropped come =
    let local = at_phase phase.Withdrawing k polls 5 in
    let new = at_phase phase.Releasing k polls 5 in
    let s = state plan first moment.locals stage in
    let c = settling plan (families moment.words) moment.locals first stage k local sound padded rule here refl
    (and_both (is_offline (plan.kind k)) true (ap is_offline offline) refl) offline dropped in
    let found : moment.words (word.Nmi k) ≡ 2 =
    ap (λ (w : Families). w.nmi k) rule.says
    ∙ ap (λ kind. nmi_code kind (s.kicked k) (s.place k)) offline
    ∙ ap (λ b. nmi_code Offline b (s.place k)) c.kicked
    ∙ come_code (s.place k) come in
    inner_kept plan moment 0 h (Cas (word.Nmi k) 1 3) local new first first stage sound padded rule own here refl
    (ap (after plan 0 local h) found)
    (λ other. refl)
    refl
    (cas_keeps moment.words (word.Nmi k) 1 3 (ap (λ n. n == 1) found))
    (subst (λ kind. Knows kind plan 0 new s) (sym sound.thread_0_is_online) (((refl, offline), dropped, refl), come))
    (is_inside plan moment.locals first stage nobody 0 local here refl)

either : (p : Bool) → (p || true) ≡ true
either true = refl
either false = refl

-- It is released.
release_kept :
    (plan : Plan) (moment : Running) (h : How) (first : Bool) (stage : Stage) (k polls : ℕ) →
    Sound plan →
    Padded plan →
    RuleBy plan (families moment.words) moment.locals first stage →
    is_step h ≡ true →
    moment.locals 0 ≡ at_phase phase.Releasing k polls 5 →
    plan.kind k ≡ Offline →
    is_dropped stage ≡ true →
    (state plan first moment.locals stage).freed k ≡ false →
    (state plan first moment.locals stage).place k ≡ In → Kept plan (event_of h 0) moment (steps plan 0 h moment)
unfolding operation after put words_of
release_kept plan moment h first stage k polls sound padded rule own here offline dropped freed inside =
    let local = at_phase phase.Releasing k polls 5 in
    let to_next = offline_from plan (k + 1) in
    let new = withdraw_at local to_next in
    let v = views plan first moment.locals in
    let s = λ (latched : ℕ → Bool). seen plan v stage latched in
    let next = λ (latched : ℕ → Bool). record (s latched) { freed = put (s latched).freed k true } in
    let c = settling plan (families moment.words) moment.locals first stage k local sound padded rule here refl
    (and_both (is_offline (plan.kind k)) true (ap is_offline offline) refl) offline dropped in
    let p = v.frees (plan.primary (plan.group k)) k in
    let raw : v.place k ≡ In = raw_place (v.place k) In (v.settles 0 k) c.unsettled inside in
    let found : moment.words (word.Ctrl k) ≡ 0 =
    ap (λ (w : Families). w.ctrl k) rule.says
    ∙ ap (λ x. ctrl_code x ((s nobody).freed k) ((s nobody).group (plan.group k))) inside
    ∙ ap (λ b. ctrl_code In b ((s nobody).group (plan.group k))) freed in
    let code : 2 ≡ ctrl_code ((s nobody).place k) true ((s nobody).group (plan.group k)) =
    sym (ap (λ x. ctrl_code x true ((s nobody).group (plan.group k))) inside ∙ ap release_code c.waits) in
    let frees : Frees plan 0 k (s moment.latched) (next moment.latched) =
    record {
      is_held = inside;
      not_freed = freed;
      another = another_kind plan 0 k sound.thread_0_is_online offline;
      may =
          inr (record {
            by_zero = refl;
            is_in = is_inside plan moment.locals first stage moment.latched 0 local here refl;
            dropped = dropped;
            of_offline = offline;
          });
      change = refl;
    } in
    step_kept plan moment 0 h (Cas (word.Ctrl k) 0 2) local new (what.Free k) first first stage stage next
    sound padded rule here refl
    (ap (after plan 0 local h) found)
    (λ other. refl)
    (record {
      sees = λ latched.
          ap (λ w. seen plan (put_view v 0 w) stage latched) (releases_view plan first k polls to_next)
          ∙ settles_sees plan moment.locals first stage latched k local
          (λ u. is_offline (plan.kind u) && past to_next u) here c.grown
          ∙ ap
          (λ x. record
          (s latched) {
            place = put (s latched).place k (place_seen x true);
            freed = put (s latched).freed k
                (freed_seen x p true);
          }) raw
          ∙ ap (λ b. record (s latched) { place = put (s latched).place k In; freed = put (s latched).freed k b })
          (either p)
          ∙ ap (λ f. record (s latched) { place = f; freed = put (s latched).freed k true })
          (put_back (s latched).place k In (sym inside));
      says =
          ap (λ n. record (families moment.words)
          { ctrl = put (families moment.words).ctrl k (if n == 0 then 2 else n) }) found
          ∙ ap (λ (w : Families). record w { ctrl = put w.ctrl k 2 }) rule.says
          ∙ ap (λ n. record (words_of plan (s nobody)) { ctrl = n })
          (coded (λ u b. ctrl_code ((s nobody).place u) b ((s nobody).group (plan.group u)))
          (s nobody).freed k true 2 code);
      gathered = rule.gathered;
      later = later_freed 0 (s nobody) k;
    })
    (subst (λ kind. Knows kind plan 0 new (next nobody)) (sym sound.thread_0_is_online)
    (releases_row plan k polls to_next (next nobody) refl dropped))
    (own_round plan 0 h (s moment.latched) (next moment.latched) (what.Free k) own (refl, frees) (refl, frees))

-- It has halted.
pass_kept :
    (plan : Plan) (moment : Running) (h : How) (first : Bool) (stage : Stage) (k polls : ℕ) →
    Sound plan →
    Padded plan →
    RuleBy plan (families moment.words) moment.locals first stage →
    is_step h ≡ true →
    moment.locals 0 ≡ at_phase phase.Releasing k polls 5 →
    plan.kind k ≡ Offline →
    is_dropped stage ≡ true →
    (state plan first moment.locals stage).freed k ≡ false →
    (state plan first moment.locals stage).place k ≡ Halted → Kept plan (event_of h 0) moment (steps plan 0 h moment)
unfolding operation after words_of
pass_kept plan moment h first stage k polls sound padded rule own here offline dropped freed halted =
    let local = at_phase phase.Releasing k polls 5 in
    let to_next = offline_from plan (k + 1) in
    let new = withdraw_at local to_next in
    let v = views plan first moment.locals in
    let s = λ (latched : ℕ → Bool). seen plan v stage latched in
    let c = settling plan (families moment.words) moment.locals first stage k local sound padded rule here refl
    (and_both (is_offline (plan.kind k)) true (ap is_offline offline) refl) offline dropped in
    let p = v.frees (plan.primary (plan.group k)) k in
    let raw : v.place k ≡ Halted = raw_place (v.place k) Halted (v.settles 0 k) c.unsettled halted in
    let found : moment.words (word.Ctrl k) ≡ 3 =
    ap (λ (w : Families). w.ctrl k) rule.says
    ∙ ap (λ x. ctrl_code x ((s nobody).freed k) ((s nobody).group (plan.group k))) halted in
    unseen_kept plan moment 0 h (Cas (word.Ctrl k) 0 2) local new what.Inner first first stage
    sound padded rule here refl
    (ap (after plan 0 local h) found)
    (λ other. refl)
    (λ latched.
    ap (λ w. seen plan (put_view v 0 w) stage latched) (releases_view plan first k polls to_next)
    ∙ settles_sees plan moment.locals first stage latched k local
    (λ u. is_offline (plan.kind u) && past to_next u) here c.grown
    ∙ ap
    (λ x. record
    (s latched) {
      place = put (s latched).place k (place_seen x true);
      freed = put (s latched).freed k
          (freed_seen x p true);
    }) raw
    ∙ ap (λ f. record (s latched) { place = f; freed = put (s latched).freed k false })
    (put_back (s latched).place k Halted (sym halted))
    ∙ ap (λ f. record (s latched) { freed = f }) (put_back (s latched).freed k false (sym freed)))
    (cas_keeps moment.words (word.Ctrl k) 0 2 (ap (λ n. n == 0) found))
    (subst (λ kind. Knows kind plan 0 new (s nobody)) (sym sound.thread_0_is_online)
    (releases_row plan k polls to_next (s nobody) refl dropped))
    (inner_round plan 0 h _ own (is_inside plan moment.locals first stage moment.latched 0 local here refl))

withdraws_by :
    (plan : Plan) (moment : Running) (h : How) (first : Bool) (stage : Stage) (k polls : ℕ) →
    Sound plan →
    Padded plan →
    RuleBy plan (families moment.words) moment.locals first stage →
    is_step h ≡ true →
    moment.locals 0 ≡ at_phase phase.Withdrawing k polls 5 →
    plan.kind k ≡ Offline →
    is_dropped stage ≡ true → Kept plan (event_of h 0) moment (steps plan 0 h moment)
unfolding views
withdraws_by plan moment h first stage k polls sound padded rule own here offline dropped =
    let s = state plan first moment.locals stage in
    let l = moment.locals k in
    let c =
    settling plan (families moment.words) moment.locals first stage k
    (at_phase phase.Withdrawing k polls 5) sound padded rule here refl
    (and_both (is_offline (plan.kind k)) true (ap is_offline offline) refl) offline dropped in
    elim (out_or_come l.phase k l.mine s ((views plan first moment.locals).settles 0 k)
    (subst (λ kind. Knows kind plan k l s) offline (rule.knows k))
    c.unsettled) [
      | inl out ↦ withdraw_kept plan moment h first stage k polls sound padded rule own here offline dropped out
      | inr come ↦ came_kept plan moment h first stage k polls sound padded rule own here offline dropped come
    ]

releases_by :
    (plan : Plan) (moment : Running) (h : How) (first : Bool) (stage : Stage) (k polls : ℕ) →
    Sound plan →
    Padded plan →
    RuleBy plan (families moment.words) moment.locals first stage →
    is_step h ≡ true →
    moment.locals 0 ≡ at_phase phase.Releasing k polls 5 →
    plan.kind k ≡ Offline →
    is_dropped stage ≡ true →
    has_come ((state plan first moment.locals stage).place k) ≡ true →
    Kept plan (event_of h 0) moment (steps plan 0 h moment)
unfolding views
releases_by plan moment h first stage k polls sound padded rule own here offline dropped come =
    let s = state plan first moment.locals stage in
    let v = views plan first moment.locals in
    let l = moment.locals k in
    let c =
    settling plan (families moment.words) moment.locals first stage k
    (at_phase phase.Releasing k polls 5) sound padded rule here refl
    (and_both (is_offline (plan.kind k)) true (ap is_offline offline) refl) offline dropped in
    let freed : s.freed k ≡ false =
    unfreed (v.place k) (v.frees (plan.primary (plan.group k)) k) (v.settles 0 k) c.unfreed c.unsettled in
    elim
    (in_or_halted l.phase k l.mine s (v.settles 0 k)
    (subst (λ kind. Knows kind plan k l s) offline (rule.knows k)) freed come) [
      | inl inside ↦
          release_kept plan moment h first stage k polls sound padded rule own here offline dropped freed inside
      | inr halted ↦ pass_kept plan moment h first stage k polls sound padded rule own here offline dropped freed halted
    ]

withdrawing_kept : (h : How) → is_step h ≡ true → KeepsTheRule phase.Withdrawing h
unfolding KeepsTheRule
withdrawing_kept h own plan moment t sound padded rule phase_is =
    let l = moment.locals t in
    let at_thread =
    stands_in phase.Withdrawing plan
    (families moment.words) moment.locals rule.first rule.stage t rule.by phase_is refl in
    let row = at_thread.row in
    let zero = row.0.0 in
    let here : moment.locals 0 ≡ at_phase phase.Withdrawing l.at l.polls 5 =
    ap moment.locals (sym zero) ∙ at_thread.here ∙ ap (at_phase phase.Withdrawing l.at l.polls) row.2 in
    subst (λ u. Kept plan (event_of h u) moment (steps plan u h moment)) (sym zero)
    (withdraws_by plan moment h rule.first rule.stage l.at l.polls sound padded rule.by own here row.0.1 row.1)

releasing_kept : (h : How) → is_step h ≡ true → KeepsTheRule phase.Releasing h
unfolding KeepsTheRule
releasing_kept h own plan moment t sound padded rule phase_is =
    let l = moment.locals t in
    let at_thread =
    stands_in phase.Releasing plan
    (families moment.words) moment.locals rule.first rule.stage t rule.by phase_is refl in
    let row = at_thread.row in
    let zero = row.0.0.0 in
    let here : moment.locals 0 ≡ at_phase phase.Releasing l.at l.polls 5 =
    ap moment.locals (sym zero) ∙ at_thread.here ∙ ap (at_phase phase.Releasing l.at l.polls) row.0.2 in
    subst (λ u. Kept plan (event_of h u) moment (steps plan u h moment)) (sym zero)
    (releases_by plan moment h rule.first rule.stage l.at l.polls sound padded rule.by own here row.0.0.1 row.0.1 row.1)

pub withdrawing_step : KeepsTheRule phase.Withdrawing how.Step
withdrawing_step = withdrawing_kept how.Step refl

pub withdrawing_timeout : KeepsTheRule phase.Withdrawing how.Timeout
withdrawing_timeout = withdrawing_kept how.Timeout refl

pub releasing_step : KeepsTheRule phase.Releasing how.Step
releasing_step = releasing_kept how.Step refl

pub releasing_timeout : KeepsTheRule phase.Releasing how.Timeout
releasing_timeout = releasing_kept how.Timeout refl
