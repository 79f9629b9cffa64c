-- While a thread is unfinished, the step of some thread counts.
use Rattle.std.proofs.Common.{◌≡◌, ◌≢◌, ◌⊎◌, ℕ, ◌+◌, ◌-◌, ◌<◌, Bool, true, false, not, ◌&&◌, ◌||◌, ◌==◌, if◌then◌else◌, Some, None, refl, ap, sym, ◌∙◌, subst, arith, true≢false, inl, inr}
use Rattle.std.proofs.lemmas.Bool.{cases_lt}
use Rattle.rendezvous_steps.specs.declared.steps.Kind.{Kind}
use Rattle.rendezvous_steps.specs.declared.steps.Kind.TheVariants.{Online, Offline, Absent as KindAbsent}
use Rattle.rendezvous_steps.specs.declared.steps.ThreadResult.TheVariants as results
use Rattle.rendezvous_steps.specs.declared.steps.Phase.{Phase}
use Rattle.rendezvous_steps.specs.declared.steps.Phase.TheVariants as phase
use Rattle.rendezvous_steps.specs.declared.steps.Local.{Local}
use Rattle.rendezvous_steps.specs.declared.operations.Word.TheVariants as word
use Rattle.rendezvous_steps.specs.Plan.{Plan, Sound, is_online, is_offline, is_absent, is_primary, is_sibling, offline_count}
use Rattle.rendezvous_steps.specs.Padded.{Padded}
use Rattle.rendezvous_steps.specs.Words.{Families, families, touched}
use Rattle.rendezvous_steps.specs.declared.steps.How.TheVariants as how
use Rattle.rendezvous_steps.specs.declared.operations.Op.TheVariants.{Cas}
use Rattle.rendezvous_steps.specs.declared.items.Event.TheVariants as event
use Rattle.rendezvous_steps.specs.StepTable.{operation, operation_in, enter_operation, after, after_in, after_outside, after_kick}
use Rattle.rendezvous_steps.specs.Events.{Running, shows_finished, happens, performs}
use Rattle.play_steps.specs.Play.{is_over}
use Rattle.play_steps.specs.Rank.{is_counted}
use Rattle.rule_laws.specs.Kept.{Ruled}
use Rattle.rendezvous_model.specs.Round.{Place, Out, In, Left, Halted, Withdrawn, Absent, Stage, Gathering, Going, DroppedByKick, DroppedBy, GroupPlace, Reported, State, nobody, is_unfinished, is_dropped, is_gathering, offline_arrived}
use Rattle.rendezvous_model.specs.Outcome.{decide_of}
use Rattle.rendezvous_rule.specs.View.{Views, views, place_in, arrived_in, decides_in, frees_in, kicks_in, settles_in, is_timeout}
use Rattle.rendezvous_rule.specs.Seen.{seen, words_of, place_seen, freed_seen, ctrl_code, nmi_code, release_code}
use Rattle.rendezvous_rule.specs.Knows.{Knows, OnlineKnows, OfflineKnows, Ends}
use Rattle.rendezvous_rule.specs.Rule.{RuleBy, AllOnlineHere}
use Rattle.rule_laws.proofs.Count.{count_same}
use Rattle.rule_laws.proofs.Frame.{and_both, and_false, and_true, same_numbers, different, equal_numbers, sibling, of_primary, primary_online, offline_leads_not}
use Rattle.rule_laws.proofs.Search.{offline_in_range, online_in_range}
use Rattle.play_laws.proofs.Counts.{Counts, always, always_counts, online_counts, kicked_counts, all_in_counts, decided_counts, sibling_counts, held_counts}
use Rattle.play_laws.specs.Stuck.{NeverStuck}
use Rattle.play_laws.proofs.Told.{place_is}
use Rattle.play_laws.proofs.Over.{unfinished_is}
use Rattle.play_laws.proofs.Search.{Fails, AllPass, all_or_one, none_fails}

-- a thread of the plan whose step counts
pub record Found (plan : Plan) (moment : Running) : Type 0 where
  pub thread : ℕ
  pub in_range : thread < plan.threads
  pub counts : Counts plan thread (moment.locals thread) moment.words

released_some : (group : GroupPlace) → release_code group ≢ 0
released_some (Reported results.Updated) e = omega arith
released_some group e = omega arith

freed_some :
    (place : Place) (freed : Bool) (group : GroupPlace) → place ≡ In → freed ≡ true →
    ctrl_code place freed group ≢ 0
freed_some place freed group e f = rw (e, f) (released_some group)

dropped_some : (stage : Stage) → is_dropped stage ≡ true → decide_of stage ≢ 0
dropped_some DroppedByKick e f = omega arith
dropped_some (DroppedBy t) e f = omega arith
dropped_some Gathering e f = cc
dropped_some Going e f = cc

going_some : (stage : Stage) → stage ≡ Going → decide_of stage ≢ 0
going_some stage e f = let one : decide_of Going ≡ 0 = sym (ap decide_of e) ∙ f in omega arith

-- a primary of which another was not freed is not past it
not_past : (a b c : Bool) → (a && (b && c)) ≡ false → a ≡ true → b ≡ true → c ≡ false
not_past true true c e f g = e
not_past false b c e f g = cc
not_past true false c e f g = cc

either_false : (a b : Bool) → (a || b) ≡ false → (a ≡ false) × (b ≡ false)
either_false false false e = (refl, refl)
either_false true b e = cc
either_false false true e = cc

no : {A : Type 0} (b : Bool) → b ≡ false → b ≡ true → A
no b off on = absurd (true≢false (sym on ∙ off))

module _ (plan : Plan) (m : Running) (first : Bool) (stage : Stage) (sound : Sound plan) (padded : Padded plan)
    (rule : RuleBy plan (families m.words) m.locals first stage) where
  abbrev v : Views
  v = views plan first m.locals

  abbrev s : State
  s = seen plan v stage nobody

  -- What the words say.

  decide_word : m.words word.Decide ≡ decide_of stage
  unfolding words_of
  decide_word = ap (λ (w : Families). w.decide) rule.says

  off_in_word : m.words word.OffIn ≡ offline_arrived plan s.arrived
  unfolding words_of
  off_in_word = ap (λ (w : Families). w.off_in) rule.says

  ctrl_word : (t : ℕ) → m.words (word.Ctrl t) ≡ ctrl_code (s.place t) (s.freed t) (s.group (plan.group t))
  unfolding words_of
  ctrl_word t = ap (λ (w : Families). w.ctrl t) rule.says

  nmi_word : (t : ℕ) → m.words (word.Nmi t) ≡ nmi_code (plan.kind t) (s.kicked t) (s.place t)
  unfolding words_of
  nmi_word t = ap (λ (w : Families). w.nmi t) rule.says

  -- a thread inside that was freed finds it
  freed_word :
      (t : ℕ) (p : Phase) → (m.locals t).phase ≡ p → place_in p (m.locals t).mine ≡ In → s.freed t ≡ true →
      m.words (word.Ctrl t) ≢ 0
  unfolding views
  freed_word t p e inside freed f =
      let is_in : s.place t ≡ In =
      ap (λ x. place_seen (place_in x (m.locals t).mine) (v.settles 0 t)) e
      ∙ ap (λ x. place_seen x (v.settles 0 t)) inside in
      freed_some (s.place t) (s.freed t) (s.group (plan.group t)) is_in freed (sym (ctrl_word t) ∙ f)

  pub knows_online :
      (t : ℕ) (p : Phase) → plan.kind t ≡ Online → (m.locals t).phase ≡ p →
      OnlineKnows p plan t (m.locals t).at (m.locals t).mine s
  knows_online t p online e =
      subst (λ x. OnlineKnows x plan t (m.locals t).at (m.locals t).mine s) e
      (subst (λ kind. Knows kind plan t (m.locals t) s) online (rule.knows t))

  pub knows_offline :
      (t : ℕ) (p : Phase) → plan.kind t ≡ Offline → (m.locals t).phase ≡ p → OfflineKnows p t (m.locals t).mine s
  knows_offline t p offline e =
      subst (λ x. OfflineKnows x t (m.locals t).mine s) e
      (subst (λ kind. Knows kind plan t (m.locals t) s) offline (rule.knows t))

  -- the step of t counts in this phase, whatever it finds
  ready : (t : ℕ) (p : Phase) → t < plan.threads → (m.locals t).phase ≡ p → always p ≡ true → Found plan m
  ready t p within e on = record {
    thread = t;
    in_range = within;
    counts = always_counts plan t (m.locals t) m.words p e on;
  }

  ready_waiting : (t : ℕ) → t < plan.threads → (m.locals t).phase ≡ phase.Waiting → decide_of stage ≢ 0 → Found plan m
  ready_waiting t within e some =
      record {
        thread = t;
        in_range = within;
        counts = decided_counts plan t (m.locals t) m.words e (λ f. some (sym decide_word ∙ f));
      }

  ready_outside : (t : ℕ) → t < plan.threads → plan.kind t ≡ Online → (m.locals t).phase ≡ phase.Outside → Found plan m
  ready_outside t within online e =
      record { thread = t; in_range = within; counts = online_counts plan t (m.locals t) m.words online e }

  -- An Online thread other than 0 that has not arrived.
  not_arrived_by : (t : ℕ) (p : Phase) →
      t < plan.threads → plan.kind t ≡ Online → (m.locals t).phase ≡ p → t ≢ 0 →
      OnlineKnows p plan t (m.locals t).at (m.locals t).mine s →
      arrived_in p (m.locals t).mine (not (t == 0) || first) ≡ false → Found plan m
  not_arrived_by t phase.Outside within online e other knows missing = ready_outside t within online e
  not_arrived_by t phase.Kicking within online e other knows missing = absurd (other knows.0)
  not_arrived_by t phase.OfflineWait within online e other knows missing = absurd (other knows.0)
  not_arrived_by t phase.Arriving within online e other knows missing = ready t phase.Arriving within e refl
  not_arrived_by t phase.OfflineCount within online e other knows missing = absurd knows
  not_arrived_by t phase.Withdrawn within online e other knows missing = absurd knows
  not_arrived_by t phase.Nothing within online e other knows missing = absurd knows
  not_arrived_by t phase.Withdrawing within online e other knows missing = absurd (other knows.0.0)
  not_arrived_by t phase.Releasing within online e other knows missing = absurd (other knows.0.0.0)
  not_arrived_by t phase.Leaving within online e other knows missing = ready t phase.Leaving within e refl
  not_arrived_by t phase.Left within online e other knows missing =
      let given : (t == 0) ≡ false = different t 0 other in
      no _ missing (ap (λ b. if is_timeout (m.locals t).mine then not b || first else true) given
      ∙ all_true (is_timeout (m.locals t).mine))
    where
      all_true : (b : Bool) → (if b then true else true) ≡ true
      all_true true = refl
      all_true false = refl
  not_arrived_by t p within online e other knows missing = cc

  online_missing : (t : ℕ) → plan.kind t ≡ Online → t ≢ 0 → s.arrived t ≡ false → Found plan m
  unfolding views
  online_missing t online other missing =
      not_arrived_by t (m.locals t).phase (online_in_range plan padded t online) online refl other
      (knows_online t (m.locals t).phase online refl) missing

  -- An Offline thread that has not arrived, while thread 0 waits for it.
  kicked_by_zero : (k : ℕ) → plan.kind k ≡ Offline → (m.locals 0).phase ≡ phase.OfflineWait → v.kicks 0 k ≡ true
  unfolding views
  kicked_by_zero k offline e =
      and_both (is_offline (plan.kind k)) (kicks_in (m.locals 0).phase (m.locals 0).at k) (ap is_offline offline)
      (ap (λ p. kicks_in p (m.locals 0).at k) e)

  unsettled_by_zero : (k : ℕ) → (m.locals 0).phase ≡ phase.OfflineWait → v.settles 0 k ≡ false
  unfolding views
  unsettled_by_zero k e =
      and_false (is_offline (plan.kind k)) (settles_in (m.locals 0).phase (m.locals 0).at (m.locals 0).mine k)
      (ap (λ p. settles_in p (m.locals 0).at (m.locals 0).mine k) e)

  stands_word : (k : ℕ) →
      plan.kind k ≡ Offline → (m.locals k).phase ≡ phase.Outside → v.kicks 0 k ≡ true → v.settles 0 k ≡ false →
      m.words (word.Nmi k) ≡ 1
  unfolding views
  stands_word k offline outside kicked unsettled =
      nmi_word k
      ∙ (ap (λ kind. nmi_code kind (s.kicked k) (s.place k)) offline
      ∙ (ap (λ b. nmi_code Offline b (s.place k)) kicked
      ∙ (ap (λ p. nmi_code Offline true (place_seen (place_in p (m.locals k).mine) (v.settles 0 k))) outside
      ∙ ap (λ b. nmi_code Offline true (place_seen Out b)) unsettled)))

  no_withdrawal : (k : ℕ) → (m.locals k).phase ≡ phase.Withdrawn → v.settles 0 k ≡ false → s.place k ≢ Withdrawn
  unfolding views
  no_withdrawal k e unsettled f =
      let out : s.place k ≡ Out =
      ap (λ p. place_seen (place_in p (m.locals k).mine) (v.settles 0 k)) e ∙ ap (place_seen Out) unsettled in
      let same : Out ≡ Withdrawn = sym out ∙ f in cc

  not_zero : (k : ℕ) → plan.kind k ≡ Offline → (k == 0) ≡ false
  not_zero k offline = different k 0 (λ e. let same : Offline ≡ Online = sym offline
      ∙ (ap plan.kind e ∙ sound.thread_0_is_online) in cc)

  all_true : (b : Bool) → (if b then true else true) ≡ true
  all_true true = refl
  all_true false = refl

  offline_by : (k : ℕ) (p : Phase) →
      k < plan.threads → plan.kind k ≡ Offline → (m.locals k).phase ≡ p → (m.locals 0).phase ≡ phase.OfflineWait →
      OfflineKnows p k (m.locals k).mine s →
      arrived_in p (m.locals k).mine (not (k == 0) || first) ≡ false → Found plan m
  offline_by k phase.Outside within offline e zero knows missing =
      record {
        thread = k;
        in_range = within;
        counts =
            kicked_counts plan k (m.locals k) m.words offline e
            (stands_word k offline e (kicked_by_zero k offline zero) (unsettled_by_zero k zero));
      }
  offline_by k phase.OfflineCount within offline e zero knows missing = ready k phase.OfflineCount within e refl
  offline_by k phase.Leaving within offline e zero knows missing = ready k phase.Leaving within e refl
  offline_by k phase.Left within offline e zero knows missing =
      no _ missing (ap (λ b. if is_timeout (m.locals k).mine then not b || first else true) (not_zero k offline)
      ∙ all_true (is_timeout (m.locals k).mine))
  offline_by k phase.Withdrawn within offline e zero knows missing =
      absurd (no_withdrawal k e (unsettled_by_zero k zero) knows.0)
  offline_by k phase.OfflineHold within offline e zero knows missing = cc
  offline_by k phase.Halted within offline e zero knows missing = cc
  offline_by k p within offline e zero knows missing = absurd knows

  offline_missing :
      (k : ℕ) → plan.kind k ≡ Offline → (m.locals 0).phase ≡ phase.OfflineWait → s.arrived k ≡ false → Found plan m
  unfolding views
  offline_missing k offline zero missing =
      offline_by k (m.locals k).phase (offline_in_range plan padded k offline) offline refl zero
      (knows_offline k (m.locals k).phase offline refl) missing

  -- Thread 0 waits for the Offline threads.
  all_in_or_one : AllPass (λ u. not (is_offline (plan.kind u)) || s.arrived u) 0 (0 + (plan.threads - 0))
      ⊎ Fails (λ u. not (is_offline (plan.kind u)) || s.arrived u) 0 (0 + (plan.threads - 0)) →
      (m.locals 0).phase ≡ phase.OfflineWait → Found plan m
  unfolding offline_count offline_arrived
  all_in_or_one (inl all) zero =
      let same = count_same (λ u. is_offline (plan.kind u) && s.arrived u) (λ u. is_offline (plan.kind u)) 0
      (plan.threads - 0)
      (λ u. counted_or (is_offline (plan.kind u)) (s.arrived u)
      (elim (cases_lt u plan.threads) [
        | inl within ↦ all u (omega arith) (omega arith)
        | inr past ↦ ap (λ kind. not (is_offline kind) || s.arrived u) (padded.no_thread u past)
      ])) in
      record {
        thread = 0;
        in_range = sound.some_thread;
        counts = all_in_counts plan 0 (m.locals 0) m.words zero (off_in_word ∙ same);
      }
    where
      counted_or : (a b : Bool) → (not a || b) ≡ true → (a && b) ≡ a
      counted_or true b e = e
      counted_or false b e = refl
  all_in_or_one (inr one) zero =
      let parts = either_false (not (is_offline (plan.kind one.at))) (s.arrived one.at) one.fails in
      offline_missing one.at (offline_by_test (plan.kind one.at) parts.0) zero parts.1
    where
      offline_by_test : (kind : Kind) → not (is_offline kind) ≡ false → kind ≡ Offline
      offline_by_test Offline e = refl
      offline_by_test Online e = cc
      offline_by_test KindAbsent e = cc

  zero_waits_offline : (m.locals 0).phase ≡ phase.OfflineWait → Found plan m
  zero_waits_offline zero = all_in_or_one (all_or_one (λ u. not (is_offline (plan.kind u)) || s.arrived u) 0
      (plan.threads - 0)) zero

  -- Thread 0 waits for the decision.

  -- the decider
  decider_counts : (t : ℕ) → s.is_decider t ≡ true → Found plan m
  unfolding views
  decider_counts t e = decides_by t (m.locals t).phase refl (and_true (is_gathering stage) _ e).1
    where
      deciding : (p : Phase) → decides_in p ≡ true → p ≡ phase.Deciding
      deciding phase.Deciding e = refl
      deciding p e = cc

      in_range : (t : ℕ) → (m.locals t).phase ≡ phase.Deciding → t < plan.threads
      in_range t e =
          elim (cases_lt t plan.threads) [
            | inl within ↦ within
            | inr past ↦
                let nothing : (m.locals t).phase ≡ phase.Nothing =
                subst (λ kind. Knows kind plan t (m.locals t) s) (padded.no_thread t past) (rule.knows t) in
                let same : phase.Nothing ≡ phase.Deciding = sym nothing ∙ e in cc
          ]

      decides_by : (t : ℕ) (p : Phase) → (m.locals t).phase ≡ p → decides_in p ≡ true → Found plan m
      decides_by t p e on =
          let here : (m.locals t).phase ≡ phase.Deciding = e ∙ deciding p on in
          ready t phase.Deciding (in_range t here) here refl

  zero_waits_by : (gathers : stage ≡ Gathering) →
      AllPass (λ u. not (is_online (plan.kind u)) || s.arrived u) 0 (0 + (plan.threads - 0))
      ⊎ Fails (λ u. not (is_online (plan.kind u)) || s.arrived u) 0 (0 + (plan.threads - 0)) →
      (m.locals 0).phase ≡ phase.Waiting → Found plan m
  unfolding views
  zero_waits_by gathers (inl all) zero =
      let here : AllOnlineHere plan s.arrived =
      λ t online. arrived_or (is_online (plan.kind t)) (s.arrived t) (ap is_online online)
      (all t (omega arith) (let within = online_in_range plan padded t online in omega arith)) in
      let decider = rule.gathered.somebody_decides gathers here in
      decider_counts decider.0 decider.1
    where
      arrived_or : (a b : Bool) → a ≡ true → (not a || b) ≡ true → b ≡ true
      arrived_or true b e f = f
      arrived_or false b e f = cc
  zero_waits_by gathers (inr one) zero =
      let parts = either_false (not (is_online (plan.kind one.at))) (s.arrived one.at) one.fails in
      online_missing one.at (online_by_test (plan.kind one.at) parts.0)
      (λ e. true≢false (sym (ap (λ p. arrived_in p (m.locals 0).mine (not (0 == 0) || first)) zero)
      ∙ (ap s.arrived (sym e) ∙ parts.1))) parts.1
    where
      online_by_test : (kind : Kind) → not (is_online kind) ≡ false → kind ≡ Online
      online_by_test Online e = refl
      online_by_test Offline e = cc
      online_by_test KindAbsent e = cc

  zero_waits : (x : Stage) → stage ≡ x → (m.locals 0).phase ≡ phase.Waiting → Found plan m
  zero_waits Gathering e zero =
      zero_waits_by e (all_or_one (λ u. not (is_online (plan.kind u)) || s.arrived u) 0 (plan.threads - 0)) zero
  zero_waits Going e zero = ready_waiting 0 sound.some_thread zero (going_some stage e)
  zero_waits DroppedByKick e zero = ready_waiting 0 sound.some_thread zero (dropped_some stage (ap is_dropped e))
  zero_waits (DroppedBy t) e zero = ready_waiting 0 sound.some_thread zero (dropped_some stage (ap is_dropped e))

  -- The primary of a thread that was not freed after a go.

  lead_by : (p : ℕ) (u : ℕ) (x : Phase) →
      p < plan.threads → plan.kind p ≡ Online → is_primary plan p ≡ true → is_sibling plan p u ≡ true →
      (m.locals p).phase ≡ x → stage ≡ Going → v.frees p u ≡ false → s.arrived p ≡ true →
      OnlineKnows x plan p (m.locals p).at (m.locals p).mine s → Found plan m
  unfolding views
  lead_by p u phase.Outside within online leads sib e going unfreed came knows =
      no _ (ap (λ x. arrived_in x (m.locals p).mine (not (p == 0) || first)) e) came
  lead_by p u phase.Waiting within online leads sib e going unfreed came knows =
      ready_waiting p within e (going_some stage going)
  lead_by p u phase.SiblingWait within online leads sib e going unfreed came knows = no _ knows.0 leads
  lead_by p u phase.SiblingCheck within online leads sib e going unfreed came knows = no _ knows.0.0 leads
  lead_by p u phase.SiblingCopy within online leads sib e going unfreed came knows = no _ knows.0.0 leads
  lead_by p u phase.Halted within online leads sib e going unfreed came knows = no _ knows.0 leads
  lead_by p u phase.OfflineWait within online leads sib e going unfreed came knows =
      no _ (ap (λ x. arrived_in x (m.locals p).mine (not (p == 0) || first)) e) came
  lead_by p u phase.Left within online leads sib e going unfreed came knows =
      left_by (is_timeout (m.locals p).mine) refl knows
    where
      left_by : (b : Bool) → is_timeout (m.locals p).mine ≡ b → Ends b plan p (m.locals p).mine s → Found plan m
      left_by true f ends = no _ (ap is_dropped going) ends
      left_by false f ends =
          let frees : frees_in (m.locals p).phase (m.locals p).at (m.locals p).mine u ≡ true =
          ap (λ x. frees_in x (m.locals p).at (m.locals p).mine u) e ∙ ap not f in
          no _ (not_past (is_primary plan p) (is_sibling plan p u) _ unfreed leads sib) frees
  lead_by p u phase.Kicking within online leads sib e going unfreed came knows = ready p phase.Kicking within e refl
  lead_by p u phase.Arriving within online leads sib e going unfreed came knows = ready p phase.Arriving within e refl
  lead_by p u phase.Deciding within online leads sib e going unfreed came knows = ready p phase.Deciding within e refl
  lead_by p u phase.Reading within online leads sib e going unfreed came knows = ready p phase.Reading within e refl
  lead_by p u phase.Beginning within online leads sib e going unfreed came knows = ready p phase.Beginning within e refl
  lead_by p u phase.Writing within online leads sib e going unfreed came knows = ready p phase.Writing within e refl
  lead_by p u phase.Checking within online leads sib e going unfreed came knows = ready p phase.Checking within e refl
  lead_by p u phase.Reporting within online leads sib e going unfreed came knows = ready p phase.Reporting within e refl
  lead_by p u phase.Freeing within online leads sib e going unfreed came knows = ready p phase.Freeing within e refl
  lead_by p u phase.Withdrawing within online leads sib e going unfreed came knows =
      ready p phase.Withdrawing within e refl
  lead_by p u phase.Releasing within online leads sib e going unfreed came knows = ready p phase.Releasing within e refl
  lead_by p u phase.Leaving within online leads sib e going unfreed came knows = ready p phase.Leaving within e refl
  lead_by p u x within online leads sib e going unfreed came knows = absurd knows

  lead_counts : (u : ℕ) →
      is_absent (plan.kind u) ≡ false → is_primary plan u ≡ false → stage ≡ Going →
      v.frees (plan.primary (plan.group u)) u ≡ false → Found plan m
  lead_counts u present follows going unfreed =
      let p = plan.primary (plan.group u) in
      let online = primary_online plan u sound padded present in
      let other : u ≢ p = λ e. no _ follows (same_numbers u p e) in
      let sib = of_primary plan p u sound padded refl present other in
      let leads : is_primary plan p ≡ true =
      same_numbers p (plan.primary (plan.group p)) (ap plan.primary (equal_groups u p sib)) in
      lead_by p u (m.locals p).phase (online_in_range plan padded p online) online leads sib refl going unfreed
      (rule.gathered.go_after_all going p online) (knows_online p (m.locals p).phase online refl)
    where
      equal_groups : (u p : ℕ) → is_sibling plan p u ≡ true → plan.group u ≡ plan.group p
      equal_groups u p e = (sibling plan p u e).same_group

  -- Thread 0 has left, and another thread is unfinished.

  pub place_at :
      (u : ℕ) (p : Phase) → (m.locals u).phase ≡ p →
      s.place u ≡ place_seen (place_in p (m.locals u).mine) (v.settles 0 u)
  unfolding views
  place_at u p e = ap (λ x. place_seen (place_in x (m.locals u).mine) (v.settles 0 u)) e

  freed_at : (u : ℕ) (p : Phase) → (m.locals u).phase ≡ p → place_in p (m.locals u).mine ≡ In →
      s.freed u ≡ (v.frees (plan.primary (plan.group u)) u || v.settles 0 u)
  unfolding views
  freed_at u p e inside =
      let place : place_in (m.locals u).phase (m.locals u).mine ≡ In = ap (λ x. place_in x (m.locals u).mine) e
      ∙ inside in
      ap (λ x. freed_seen x (v.frees (plan.primary (plan.group u)) u) (v.settles 0 u)) place

  -- one that waits to be freed by its primary
  held_or_lead : (u : ℕ) (p : Phase) (freed : Bool) →
      u < plan.threads → is_absent (plan.kind u) ≡ false → is_primary plan u ≡ false → (m.locals u).phase ≡ p →
      place_in p (m.locals u).mine ≡ In →
      (m.words (word.Ctrl u) ≢ 0 → Counts plan u (m.locals u) m.words) →
      (stage ≡ Going ⊎ v.settles 0 u ≡ true) → s.freed u ≡ freed → Found plan m
  held_or_lead u p true within present follows e inside counts why freed =
      record { thread = u; in_range = within; counts = counts (freed_word u p e inside freed) }
  held_or_lead u p false within present follows e inside counts (inl going) freed =
      lead_counts u present follows going (either_false _ _ (sym (freed_at u p e inside) ∙ freed)).0
  held_or_lead u p false within present follows e inside counts (inr settled) freed =
      no _ (either_false _ _ (sym (freed_at u p e inside) ∙ freed)).1 settled

  finished : (u : ℕ) (p : Phase) {A : Type 0} →
      (m.locals u).phase ≡ p → is_unfinished (place_seen (place_in p (m.locals u).mine) (v.settles 0 u)) ≡ false →
      is_unfinished (s.place u) ≡ true → A
  finished u p e over unfinished = no _ (ap is_unfinished (place_at u p e) ∙ over) unfinished

  after_zero_online : (u : ℕ) (p : Phase) →
      u < plan.threads → plan.kind u ≡ Online → (m.locals u).phase ≡ p → (m.locals 0).phase ≡ phase.Left →
      decide_of stage ≢ 0 → OnlineKnows p plan u (m.locals u).at (m.locals u).mine s →
      is_unfinished (s.place u) ≡ true → Found plan m
  after_zero_online u phase.Outside within online e zero decided knows unfinished = ready_outside u within online e
  after_zero_online u phase.Waiting within online e zero decided knows unfinished = ready_waiting u within e decided
  after_zero_online u phase.OfflineWait within online e zero decided knows unfinished =
      let same : phase.OfflineWait ≡ phase.Left = sym e ∙ (ap (λ x. (m.locals x).phase) knows.0 ∙ zero) in cc
  after_zero_online u phase.SiblingWait within online e zero decided knows unfinished =
      held_or_lead u phase.SiblingWait (s.freed u) within (ap is_absent online) knows.0 e refl
      (λ told. sibling_counts plan u (m.locals u) m.words e told) (inl knows.1) refl
  after_zero_online u phase.Left within online e zero decided knows unfinished = finished u phase.Left e refl unfinished
  after_zero_online u phase.Halted within online e zero decided knows unfinished =
      finished u phase.Halted e refl unfinished
  after_zero_online u phase.OfflineCount within online e zero decided knows unfinished = absurd knows
  after_zero_online u phase.OfflineHold within online e zero decided knows unfinished = absurd knows
  after_zero_online u phase.Withdrawn within online e zero decided knows unfinished = absurd knows
  after_zero_online u phase.Nothing within online e zero decided knows unfinished = absurd knows
  after_zero_online u p within online e zero decided knows unfinished = ready u p within e refl

  settled_by_zero :
      (u : ℕ) → plan.kind u ≡ Offline → (m.locals 0).phase ≡ phase.Left → is_timeout (m.locals 0).mine ≡ true →
      v.settles 0 u ≡ true
  unfolding views
  settled_by_zero u offline zero timeout =
      and_both (is_offline (plan.kind u)) (settles_in (m.locals 0).phase (m.locals 0).at (m.locals 0).mine u)
      (ap is_offline offline)
      (ap (λ p. settles_in p (m.locals 0).at (m.locals 0).mine u) zero ∙ timeout)

  -- after a go every Offline thread has come
  all_came : stage ≡ Going → (u : ℕ) → plan.kind u ≡ Offline → s.arrived u ≡ true
  all_came going u offline = rule.gathered.zero_last (rule.gathered.go_after_all going 0 sound.thread_0_is_online) u
      offline

  unarrived : (u : ℕ) {A : Type 0} → (m.locals u).phase ≡ phase.Outside → s.arrived u ≡ true → A
  unfolding views
  unarrived u e came = no _ (ap (λ x. arrived_in x (m.locals u).mine (not (u == 0) || first)) e) came

  after_zero_offline : (u : ℕ) (p : Phase) →
      u < plan.threads → plan.kind u ≡ Offline → (m.locals u).phase ≡ p →
      (stage ≡ Going ⊎ v.settles 0 u ≡ true) → OfflineKnows p u (m.locals u).mine s →
      is_unfinished (s.place u) ≡ true → Found plan m
  after_zero_offline u phase.Outside within offline e (inl going) knows unfinished =
      unarrived u e (all_came going u offline)
  after_zero_offline u phase.Outside within offline e (inr settled) knows unfinished =
      finished u phase.Outside e (ap (λ b. is_unfinished (place_seen Out b)) settled) unfinished
  after_zero_offline u phase.OfflineCount within offline e why knows unfinished =
      ready u phase.OfflineCount within e refl
  after_zero_offline u phase.OfflineHold within offline e why knows unfinished =
      held_or_lead u phase.OfflineHold (s.freed u) within (ap is_absent offline)
      (offline_leads_not plan u sound padded offline) e refl
      (λ told. held_counts plan u (m.locals u) m.words e told) why refl
  after_zero_offline u phase.Leaving within offline e why knows unfinished = ready u phase.Leaving within e refl
  after_zero_offline u phase.Left within offline e why knows unfinished = finished u phase.Left e refl unfinished
  after_zero_offline u phase.Halted within offline e why knows unfinished = finished u phase.Halted e refl unfinished
  after_zero_offline u phase.Withdrawn within offline e why knows unfinished =
      no _ (ap is_unfinished knows.0) unfinished
  after_zero_offline u p within offline e why knows unfinished = absurd knows

  ends_decided : (b : Bool) → Ends b plan 0 (m.locals 0).mine s → decide_of stage ≢ 0
  ends_decided true ends = dropped_some stage ends
  ends_decided false ends = going_some stage ends.0

  ends_why :
      (u : ℕ) (b : Bool) → plan.kind u ≡ Offline → (m.locals 0).phase ≡ phase.Left →
      is_timeout (m.locals 0).mine ≡ b →
      Ends b plan 0 (m.locals 0).mine s → (stage ≡ Going ⊎ v.settles 0 u ≡ true)
  ends_why u true offline zero e ends = inr (settled_by_zero u offline zero e)
  ends_why u false offline zero e ends = inl ends.0

  after_zero : (u : ℕ) (kind : Kind) →
      u < plan.threads → plan.kind u ≡ kind → (m.locals 0).phase ≡ phase.Left →
      Ends (is_timeout (m.locals 0).mine) plan 0 (m.locals 0).mine s → is_unfinished (s.place u) ≡ true → Found plan m
  after_zero u Online within k zero ends unfinished =
      after_zero_online u (m.locals u).phase within k refl zero (ends_decided (is_timeout (m.locals 0).mine) ends)
      (knows_online u (m.locals u).phase k refl) unfinished
  after_zero u Offline within k zero ends unfinished =
      after_zero_offline u (m.locals u).phase within k refl (ends_why u (is_timeout (m.locals 0).mine) k zero refl ends)
      (knows_offline u (m.locals u).phase k refl) unfinished
  after_zero u KindAbsent within k zero ends unfinished =
      let nothing : (m.locals u).phase ≡ phase.Nothing =
      subst (λ kind. Knows kind plan u (m.locals u) s) k (rule.knows u) in
      finished u phase.Nothing nothing refl unfinished

  -- By the phase of thread 0, which is the primary of its group.

  zero_leads : is_primary plan 0 ≡ true
  zero_leads =
      let lowest = sound.primary_is_the_lowest 0 sound.some_thread in
      same_numbers 0 (plan.primary (plan.group 0)) (omega arith)

  by_zero : (p : Phase) (u : ℕ) →
      (m.locals 0).phase ≡ p → OnlineKnows p plan 0 (m.locals 0).at (m.locals 0).mine s →
      u < plan.threads → is_unfinished (s.place u) ≡ true → Found plan m
  by_zero phase.Outside u e knows within unfinished = ready_outside 0 sound.some_thread sound.thread_0_is_online e
  by_zero phase.OfflineWait u e knows within unfinished = zero_waits_offline e
  by_zero phase.Waiting u e knows within unfinished = zero_waits stage refl e
  by_zero phase.SiblingWait u e knows within unfinished = no _ knows.0 zero_leads
  by_zero phase.Halted u e knows within unfinished = no _ knows.0 zero_leads
  by_zero phase.Left u e knows within unfinished = after_zero u (plan.kind u) within refl e knows unfinished
  by_zero phase.OfflineCount u e knows within unfinished = absurd knows
  by_zero phase.OfflineHold u e knows within unfinished = absurd knows
  by_zero phase.Withdrawn u e knows within unfinished = absurd knows
  by_zero phase.Nothing u e knows within unfinished = absurd knows
  by_zero p u e knows within unfinished = ready 0 p sound.some_thread e refl

  -- A thread whose step counts is unfinished.

  stands_out : (kicked : Bool) (place : Place) → nmi_code Offline kicked place ≡ 1 → place ≡ Out
  stands_out true Out e = refl
  stands_out true In e = absurd (omega arith)
  stands_out true (Left x) e = absurd (omega arith)
  stands_out true Halted e = absurd (omega arith)
  stands_out true Withdrawn e = absurd (omega arith)
  stands_out true Absent e = absurd (omega arith)
  stands_out false place e = absurd (omega arith)

  found_stands : (local : Local) (found : ℕ) (stands gone : Bool) →
      (found == 1) ≡ stands → (found == 3) ≡ gone → is_counted (after_kick local how.Step found).1 ≡ true → found ≡ 1
  found_stands local found true gone e f counts = equal_numbers found 1 e
  found_stands local found false true e f counts = no {A = found ≡ 1} _ (rw (e, f) refl) counts
  found_stands local found false false e f counts = no {A = found ≡ 1} _ (rw (e, f) refl) counts

  outside_unfinished : (t : ℕ) (kind : Kind) →
      plan.kind t ≡ kind → (m.locals t).phase ≡ phase.Outside → Counts plan t (m.locals t) m.words →
      is_unfinished (s.place t) ≡ true
  unfolding operation after views
  outside_unfinished t Online k e c =
      let unsettled = and_false' (is_offline (plan.kind t))
      (settles_in (m.locals 0).phase (m.locals 0).at (m.locals 0).mine t) (ap is_offline k) in
      ap is_unfinished (place_at t phase.Outside e) ∙ ap (λ b. is_unfinished (place_seen Out b)) unsettled
    where
      and_false' : (a b : Bool) → a ≡ false → (a && b) ≡ false
      and_false' false b e = refl
      and_false' true b e = cc
  outside_unfinished t Offline k e c =
      let l = m.locals t in
      let has : Some (Cas (word.Nmi t) 1 2) ≡ Some c.op =
      sym (ap (λ p. operation_in plan t l how.Step p) e ∙ ap (λ kind. Some (enter_operation kind t)) k) ∙ c.has in
      let op : c.op ≡ Cas (word.Nmi t) 1 2 = cc in
      let counts : is_counted (after_kick l how.Step (m.words (word.Nmi t))).1 ≡ true =
      sym (ap (λ o. is_counted (after plan t l how.Step (m.words (touched o))).1) op
      ∙ (ap (λ p. is_counted (after_in plan t l how.Step (m.words (word.Nmi t)) p).1) e
      ∙ ap (λ kind. is_counted (after_outside kind plan t l how.Step (m.words (word.Nmi t))).1) k)) ∙ c.counts in
      let one = found_stands l (m.words (word.Nmi t)) (m.words (word.Nmi t) == 1) (m.words (word.Nmi t) == 3) refl
      refl counts in
      ap is_unfinished (stands_out (s.kicked t) (s.place t)
      (ap (λ kind. nmi_code kind (s.kicked t) (s.place t)) (sym k) ∙ (sym (nmi_word t) ∙ one)))
  outside_unfinished t KindAbsent k e c =
      let nothing : (m.locals t).phase ≡ phase.Nothing =
      subst (λ kind. Knows kind plan t (m.locals t) s) k (rule.knows t) in
      let same : phase.Outside ≡ phase.Nothing = sym e ∙ nothing in cc

  counts_unfinished_by : (t : ℕ) (p : Phase) →
      (m.locals t).phase ≡ p → Counts plan t (m.locals t) m.words → is_unfinished (s.place t) ≡ true
  unfolding operation
  counts_unfinished_by t phase.Outside e c = outside_unfinished t (plan.kind t) refl e c
  counts_unfinished_by t phase.Left e c =
      let none : None ≡ Some c.op = sym (ap (λ p. operation_in plan t (m.locals t) how.Step p) e) ∙ c.has in cc
  counts_unfinished_by t phase.Halted e c =
      let none : None ≡ Some c.op = sym (ap (λ p. operation_in plan t (m.locals t) how.Step p) e) ∙ c.has in cc
  counts_unfinished_by t phase.Withdrawn e c =
      let none : None ≡ Some c.op = sym (ap (λ p. operation_in plan t (m.locals t) how.Step p) e) ∙ c.has in cc
  counts_unfinished_by t phase.Nothing e c =
      let none : None ≡ Some c.op = sym (ap (λ p. operation_in plan t (m.locals t) how.Step p) e) ∙ c.has in cc
  counts_unfinished_by t p e c = ap is_unfinished (place_at t p e)

  pub counts_unfinished : (t : ℕ) → Counts plan t (m.locals t) m.words → is_unfinished (s.place t) ≡ true
  counts_unfinished t c = counts_unfinished_by t (m.locals t).phase refl c

-- Of a moment.

-- some thread is unfinished
unfinished_one :
    (plan : Plan) (m : Running) → is_over plan m ≡ false →
    Fails (λ t. shows_finished plan m.words t) 0 (0 + (plan.threads - 0))
unfinished_one plan m goes_on = by (all_or_one (λ t. shows_finished plan m.words t) 0 (plan.threads - 0))
  where
    by : AllPass (λ t. shows_finished plan m.words t) 0 (0 + (plan.threads - 0))
        ⊎ Fails (λ t. shows_finished plan m.words t) 0 (0 + (plan.threads - 0)) →
        Fails (λ t. shows_finished plan m.words t) 0 (0 + (plan.threads - 0))
    by (inl all) = no _ goes_on (ap not (none_fails (λ t. shows_finished plan m.words t) 0 (plan.threads - 0) all))
    by (inr one) = one

pub found_ready :
    (plan : Plan) (m : Running) → Sound plan → Padded plan → Ruled plan m → is_over plan m ≡ false → Found plan m
found_ready plan m sound padded ruled goes_on =
    let one = unfinished_one plan m goes_on in
    let high : one.at < 0 + (plan.threads - 0) = one.high in
    let unfinished =
    ap is_unfinished (sym (place_is plan m ruled.first ruled.stage sound padded ruled.by one.at))
    ∙ (unfinished_is plan m one.at ∙ ap not one.fails) in
    by_zero plan m ruled.first ruled.stage sound padded ruled.by (m.locals 0).phase one.at refl
    (knows_online plan m ruled.first ruled.stage sound padded ruled.by 0 (m.locals 0).phase sound.thread_0_is_online
    refl)
    (omega arith) unfinished

-- what counts by the thread's state and the words is the item of its step
pub counts_here :
    (plan : Plan) (m : Running) (t : ℕ) → Counts plan t (m.locals t) m.words →
    is_counted (happens plan (event.Step t) m).1 ≡ true
unfolding happens
counts_here plan m t c = ap (λ op. is_counted (performs plan t how.Step m op).1) c.has ∙ c.counts

pub never_stuck : NeverStuck
never_stuck plan m sound padded ruled goes_on =
    let found = found_ready plan m sound padded ruled goes_on in
    record {
      thread = found.thread;
      in_range = found.in_range;
      unfinished =
          ap is_unfinished (place_is plan m ruled.first ruled.stage sound padded ruled.by found.thread)
          ∙ counts_unfinished plan m ruled.first ruled.stage sound padded ruled.by found.thread found.counts;
      counts = counts_here plan m found.thread found.counts;
    }
