use Rattle.std.proofs.Common.{◌≡◌, ◌≤◌, ℕ, List, ◌++◌, Option, Ok, Err, All, length, refl, sym, ap, ◌∙◌, subst}
use Rattle.std.specs.List.{slice_index}
use Rattle.uc_io.specs.declared.sinks.SinkFailed.{SinkFailed}
use Rattle.uc_io.specs.Writing.{Writes}
use Rattle.patch_pool.specs.declared.pool.PatchId.{PatchId}
use Rattle.session_steps.specs.entry_model.Entry.{Entry}
use Rattle.rendezvous_model.specs.Outcome.{Outcome}
use Rattle.session_steps.specs.rendezvous_rule.Runs.{BeatInRange}
use Rattle.session_steps.specs.script_text.declared.command.Command.TheVariants.{Load as LoadCommand}
use Rattle.session_steps.specs.session_text.declared.answers.CommandAnswer.TheVariants.{Load}
use Rattle.session_steps.specs.session_text.declared.answers.Played.{Played}
use Rattle.session_steps.specs.State.{Setting, State, machine_of}
use Rattle.session_steps.specs.Offers.{plan_of as load_plan}
use Rattle.session_steps.specs.Did.{loaded, results_text}
use Rattle.session_steps.specs.session_text.Lines.{answer_line}
use Rattle.session_steps.specs.session_text.declared.answers.CommandAnswer.{CommandAnswer}
use Rattle.session_steps.specs.session_text.declared.answers.Played.TheVariants.{Answered, WriteFault}
use Rattle.session_steps.specs.Calls.{Outside, HeldWhere, Situation}
use Rattle.session_parts.specs.Parts.{setting_of, state_of}
use Rattle.session_parts.specs.Loads.{IsPut}
use Rattle.ctl_words.specs.Plans.{plan_of}
use Rattle.uc_rendezvous.specs.Outcomes.{outcome_of}
use Rattle.uc_topology.specs.Stated.{Machine, group_count}
use Rattle.uc_session.specs.Acts.{Stage}
use Rattle.uc_session.specs.Loads.{ready_of, Refuses, Stops}
use Rattle.uc_session.specs.Playing.{Does}
use Rattle.uc_session.proofs.Acting.{by_answer}
use Rattle.uc_session.proofs.Told.{acted_does, begun}
use Rattle.uc_session.proofs.Loading as loading
use Rattle.uc_session.proofs.loads.play_load.Goals as goal

-- ---- a load that does not come to its rendezvous

pub returns-in-Err-Answer-clause-does : goal.returns-in-Err-Answer-clause-does
returns-in-Err-Answer-clause-does g c =
    let held = HeldWhere (g.F.Pieces.tells c.args.files.now) (g.F.Files.holds c.args.files.now) in
    let before : Stage = record { state = state_of c.args.parts.now; files = g.F.Pieces.faults c.args.files.now } in
    let now : Stage = record { state = state_of c.set_out.new.parts; files = g.F.Pieces.faults c.set_out.new.files } in
    let one = LoadCommand c.args.force c.args.names.now c.args.beats.now in
    let refuses : Refuses held (setting_of c.args.parts.now) c.args.force c.args.names.now before now c.in-Err-Answer.answer =
    subst (Stops held (setting_of c.args.parts.now) c.args.force c.args.names.now before now)
    c.in-Err-Answer.field-0-is c.in-Err-Answer.ensures.answer in
    acted_does
    (record { stands = g.S.Sink.stands; faults = g.S.Sink.faults; lists = g.R.Rendezvous.lists; held = HeldWhere (g.F.Pieces.tells c.args.files.now) (g.F.Files.holds c.args.files.now) }) (setting_of c.args.parts.now) one
    (record { state = state_of c.args.parts.now; files = g.F.Pieces.faults c.args.files.now; runs = g.R.Rendezvous.runs c.args.how.now; sink = c.args.out.now })
    (record { state = state_of c.set_out.new.parts; files = g.F.Pieces.faults c.set_out.new.files; runs = g.R.Rendezvous.runs c.args.how.now; sink = c.tell_load.new.out })
    c.tell_load.ensures.0 c.args.names.now c.tell_load.result
    (by_answer held (setting_of c.args.parts.now) one before now
    c.tell_load.ensures.0 refuses.reads (Load c.in-Err-Answer.answer) c.tell_load.ensures.1 (c.tell_load.ensures.2 ∙ ap Load c.in-Err-Answer.answer-is) refuses.same refuses.is_held
    (λ lists. refuses.step lists c.args.beats.now) refuses.cause)
    refl refl c.tell_load.ensures.3

pub returns-in-Err-NoMemory-clause-does : goal.returns-in-Err-NoMemory-clause-does
returns-in-Err-NoMemory-clause-does g c =
    let held = HeldWhere (g.F.Pieces.tells c.args.files.now) (g.F.Files.holds c.args.files.now) in
    let before : Stage = record { state = state_of c.args.parts.now; files = g.F.Pieces.faults c.args.files.now } in
    let now : Stage = record { state = state_of c.set_out.new.parts; files = g.F.Pieces.faults c.set_out.new.files } in
    let one = LoadCommand c.args.force c.args.names.now c.args.beats.now in
    let stops : (now.files ≡ before.files) × (now.state ≡ before.state) =
    subst (Stops held (setting_of c.args.parts.now) c.args.force c.args.names.now before now)
    c.in-Err-NoMemory.field-0-is c.in-Err-NoMemory.ensures.answer in
    begun
    (record { stands = g.S.Sink.stands; faults = g.S.Sink.faults; lists = g.R.Rendezvous.lists; held = HeldWhere (g.F.Pieces.tells c.args.files.now) (g.F.Files.holds c.args.files.now) }) (setting_of c.args.parts.now) one
    (record { state = state_of c.args.parts.now; files = g.F.Pieces.faults c.args.files.now; runs = g.R.Rendezvous.runs c.args.how.now; sink = c.args.out.now })
    (record { state = state_of c.set_out.new.parts; files = g.F.Pieces.faults c.set_out.new.files; runs = g.R.Rendezvous.runs c.args.how.now; sink = c.args.out.now })
    (g.F.Files.holds c.args.files.now) (λ reads is told. is)
    (c.each_command_does_something.ensures.step g.R.Rendezvous.lists (setting_of c.args.parts.now) (state_of c.args.parts.now) one
    (g.F.Files.holds c.args.files.now) g.met.R.Rendezvous.always_runs c.topology-topology.ensures.partition c.requires.standing)
    stops.0 stops.1

-- ---- one that does

pub offer_and_run-requires-clause-sound : goal.offer_and_run-requires-clause-sound
offer_and_run-requires-clause-sound g c = c.in-Ok.ensures.answer.sound

pub offer_and_run-requires-clause-few : goal.offer_and_run-requires-clause-few
offer_and_run-requires-clause-few g c =
    let sets = c.in-Ok.ensures.answer in
    subst (λ (n : ℕ). n ≤ g.R.Rendezvous.limit c.args.how.now)
    (ap (λ (s : Setting). (machine_of s).threads) (sym c.in-Ok.ensures.setting) ∙ sym (loading.threads_are _ _ _ _ _ _ _ sets))
    c.requires.most

pub offer_and_run-requires-clause-in_range : goal.offer_and_run-requires-clause-in_range
offer_and_run-requires-clause-in_range g c =
    let sets = c.in-Ok.ensures.answer in
    subst (λ (n : ℕ). All (BeatInRange n) c.args.beats.now)
    (ap (λ (s : Setting). (machine_of s).threads) (sym c.in-Ok.ensures.setting) ∙ sym (loading.threads_are _ _ _ _ _ _ _ sets))
    c.requires.beats

pub returns-in-Err-clause-does : goal.returns-in-Err-clause-does
returns-in-Err-clause-does g c =
    let held = HeldWhere (g.F.Pieces.tells c.args.files.now) (g.F.Files.holds c.args.files.now) in
    let sets = c.in-Ok.ensures.answer in
    let one = LoadCommand c.args.force c.args.names.now c.args.beats.now in
    let outside : Outside _ =
    record { stands = g.S.Sink.stands; faults = g.S.Sink.faults; lists = g.R.Rendezvous.lists; held = held } in
    let found : Situation _ =
    record { state = state_of c.args.parts.now; files = g.F.Pieces.faults c.args.files.now; runs = g.R.Rendezvous.runs c.args.how.now; sink = c.args.out.now } in
    let came =
    loading.stopped _ _ _ _ _ _ _ sets
    (record { stands = g.S.Sink.stands; faults = g.S.Sink.faults; lists = g.R.Rendezvous.lists }) c.args.beats.now
    (record { runs = g.R.Rendezvous.runs c.args.how.now; sink = c.args.out.now }) (g.R.Rendezvous.runs c.offer_and_run.new.how) c.offer_and_run.new.out c.the_verdict_is_the_first_that_holds.ensures.holds c.in-Err.answer
    (λ s state p is_machine is_plan. c.in-Err.ensures.meets s state p (is_machine ∙ sym c.topology.ensures.machine) is_plan)
    (state_of c.take_back.new.self)
    (c.take_back.ensures.back (setting_of c.set_out.new.parts) _ _ (state_of c.args.parts.now)
    (subst (λ (all : List (Option PatchId)). IsPut (setting_of c.set_out.new.parts) c.in-Ok.catalog.entries c.set_out.new.tables.offers.items (state_of c.args.parts.now) (state_of c.set_out.new.parts) all)
    (sym c.as_slice.ensures.value) sets.from.put)) in
    subst (λ (s : Setting). Does outside s one found (record { state = state_of c.take_back.new.self; files = g.F.Pieces.faults c.set_out.new.files; runs = g.R.Rendezvous.runs c.offer_and_run.new.how; sink = c.offer_and_run.new.out }) c.cut_short.result)
    c.in-Ok.ensures.setting (subst (λ (come : Played). Does outside (setting_of c.set_out.new.parts) one found (record { state = state_of c.take_back.new.self; files = g.F.Pieces.faults c.set_out.new.files; runs = g.R.Rendezvous.runs c.offer_and_run.new.how; sink = c.offer_and_run.new.out }) come)
    (sym c.cut_short.ensures) came)

pub finish_load-requires-clause-power : goal.finish_load-requires-clause-power
finish_load-requires-clause-power g c =
    let sets = c.in-Ok.ensures.answer in
    loading.power_is_on _ _ _ _ _ _ _ sets

pub finish_load-requires-clause-revs : goal.finish_load-requires-clause-revs
finish_load-requires-clause-revs g c =
    let sets = c.in-Ok.ensures.answer in
    ap length c.as_slice-3.ensures.value ∙ loading.revs_count _ _ _ _ _ _ _ sets
    (record { stands = g.S.Sink.stands; faults = g.S.Sink.faults; lists = g.R.Rendezvous.lists }) c.args.beats.now
    (record { runs = g.R.Rendezvous.runs c.args.how.now; sink = c.args.out.now }) (g.R.Rendezvous.runs c.offer_and_run.new.how) c.offer_and_run.new.out c.each_event_keeps_the_rule.ensures.event c.each_event_keeps_the_rule.ensures.opening c.offer_and_run.new.outcome
    (λ s state p is_machine is_plan. c.in-Ok-offer_and_run.ensures.meets s state p (is_machine ∙ sym c.topology.ensures.machine) is_plan)

pub finish_load-requires-clause-no_lower : goal.finish_load-requires-clause-no_lower
finish_load-requires-clause-no_lower g c =
    let sets = c.in-Ok.ensures.answer in
    λ group below.
    subst (λ (revs : List ℕ). (state_of c.set_out.new.parts).hardware.rev group ≤ slice_index revs group) (sym c.as_slice-3.ensures.value)
    (loading.no_lower _ _ _ _ _ _ _ sets
    (record { stands = g.S.Sink.stands; faults = g.S.Sink.faults; lists = g.R.Rendezvous.lists }) c.args.beats.now
    (record { runs = g.R.Rendezvous.runs c.args.how.now; sink = c.args.out.now }) (g.R.Rendezvous.runs c.offer_and_run.new.how) c.offer_and_run.new.out c.each_event_keeps_the_rule.ensures.event c.each_event_keeps_the_rule.ensures.opening c.offer_and_run.new.outcome
    (λ s state p is_machine is_plan. c.in-Ok-offer_and_run.ensures.meets s state p (is_machine ∙ sym c.topology.ensures.machine) is_plan) g.met.R.Rendezvous.never_falls group below)

pub verdict-requires-clause-ends : goal.verdict-requires-clause-ends
verdict-requires-clause-ends g c =
    let sets = c.in-Ok.ensures.answer in
    loading.ends_count _ _ _ _ _ _ _ sets
    (record { stands = g.S.Sink.stands; faults = g.S.Sink.faults; lists = g.R.Rendezvous.lists }) c.args.beats.now
    (record { runs = g.R.Rendezvous.runs c.args.how.now; sink = c.args.out.now }) (g.R.Rendezvous.runs c.offer_and_run.new.how) c.offer_and_run.new.out c.each_event_keeps_the_rule.ensures.event c.each_event_keeps_the_rule.ensures.opening c.offer_and_run.new.outcome
    (λ s state p is_machine is_plan. c.in-Ok-offer_and_run.ensures.meets s state p (is_machine ∙ sym c.topology.ensures.machine) is_plan)

pub verdict-requires-clause-decide : goal.verdict-requires-clause-decide
verdict-requires-clause-decide g c =
    let sets = c.in-Ok.ensures.answer in
    loading.decided _ _ _ _ _ _ _ sets
    (record { stands = g.S.Sink.stands; faults = g.S.Sink.faults; lists = g.R.Rendezvous.lists }) c.args.beats.now
    (record { runs = g.R.Rendezvous.runs c.args.how.now; sink = c.args.out.now }) (g.R.Rendezvous.runs c.offer_and_run.new.how) c.offer_and_run.new.out c.each_event_keeps_the_rule.ensures.event c.each_event_keeps_the_rule.ensures.opening c.offer_and_run.new.outcome
    (λ s state p is_machine is_plan. c.in-Ok-offer_and_run.ensures.meets s state p (is_machine ∙ sym c.topology.ensures.machine) is_plan)

pub put_end-requires : goal.put_end-requires
put_end-requires g c =
    let sets = c.in-Ok.ensures.answer in
    loading.revs_count _ _ _ _ _ _ _ sets
    (record { stands = g.S.Sink.stands; faults = g.S.Sink.faults; lists = g.R.Rendezvous.lists }) c.args.beats.now
    (record { runs = g.R.Rendezvous.runs c.args.how.now; sink = c.args.out.now }) (g.R.Rendezvous.runs c.offer_and_run.new.how) c.offer_and_run.new.out c.each_event_keeps_the_rule.ensures.event c.each_event_keeps_the_rule.ensures.opening c.offer_and_run.new.outcome
    (λ s state p is_machine is_plan. c.in-Ok-offer_and_run.ensures.meets s state p (is_machine ∙ sym c.topology.ensures.machine) is_plan)
    ∙ ap (λ (s : Setting). (machine_of s).groups) (sym c.finish_load.ensures.setting)
    ∙ ap (λ (m : Machine). group_count m.stated.cores) (sym c.topology-2.ensures.machine)

pub returns-in-Ok-put_end-clause-does : goal.returns-in-Ok-put_end-clause-does
returns-in-Ok-put_end-clause-does g c =
    let held = HeldWhere (g.F.Pieces.tells c.args.files.now) (g.F.Files.holds c.args.files.now) in
    let sets = c.in-Ok.ensures.answer in
    let same = c.command_answer-answer.ensures ∙ c.verdict.ensures.is_answer in
    let made = sets.from.plan_is in
    let kept =
    subst
    (λ (all : List (Option PatchId)). (entries : List Entry) (offers : List (Option ℕ)) (before : State) (outcome : Outcome) (put : IsPut (setting_of c.set_out.new.parts) entries offers before (state_of c.set_out.new.parts) all) → plan_of c.set_out.new.tables.plan ≡ load_plan (setting_of c.set_out.new.parts) before put.puts offers → outcome.revs ≡ c.as_slice-3.result.now → state_of c.finish_load.new.self ≡ loaded (setting_of c.set_out.new.parts) before put.puts offers (plan_of c.set_out.new.tables.plan) outcome)
    c.as_slice-2.ensures.value c.finish_load.ensures.kept in
    let wrote =
    subst (λ (a : CommandAnswer). Writes {E = SinkFailed} g.S.Sink.stands g.S.Sink.faults c.offer_and_run.new.out c.put_end.new.out (results_text (setting_of c.set_out.new.parts) (state_of c.args.parts.now) (plan_of c.set_out.new.tables.plan) (outcome_of c.offer_and_run.new.outcome) ++ answer_line c.args.names.now a) (Ok tt)) same
    (c.in-Ok-put_end.ensures (setting_of c.set_out.new.parts) (state_of c.args.parts.now) sets.from.put.puts c.set_out.new.tables.offers.items
    (sym (c.topology-2.ensures.machine ∙ ap (λ (s : Setting). s.machine) c.finish_load.ensures.setting)) made) in
    let one = LoadCommand c.args.force c.args.names.now c.args.beats.now in
    let outside : Outside _ =
    record { stands = g.S.Sink.stands; faults = g.S.Sink.faults; lists = g.R.Rendezvous.lists; held = held } in
    let found : Situation _ =
    record { state = state_of c.args.parts.now; files = g.F.Pieces.faults c.args.files.now; runs = g.R.Rendezvous.runs c.args.how.now; sink = c.args.out.now } in
    let came =
    loading.finished _ _ _ _ _ _ _ sets
    (record { stands = g.S.Sink.stands; faults = g.S.Sink.faults; lists = g.R.Rendezvous.lists }) c.args.beats.now
    (record { runs = g.R.Rendezvous.runs c.args.how.now; sink = c.args.out.now }) (g.R.Rendezvous.runs c.offer_and_run.new.how) c.offer_and_run.new.out c.each_event_keeps_the_rule.ensures.event c.each_event_keeps_the_rule.ensures.opening c.offer_and_run.new.outcome
    (λ s state p is_machine is_plan. c.in-Ok-offer_and_run.ensures.meets s state p (is_machine ∙ sym c.topology.ensures.machine) is_plan) {E = SinkFailed}
    c.verdict.ensures.verdict c.put_end.new.out (Ok tt) (state_of c.finish_load.new.self) c.verdict.ensures.holds
    (kept c.in-Ok.catalog.entries c.set_out.new.tables.offers.items (state_of c.args.parts.now) (outcome_of c.offer_and_run.new.outcome) sets.from.put made (sym c.as_slice-3.ensures.value))
    wrote in
    subst (λ (s : Setting). Does outside s one found (record { state = state_of c.finish_load.new.self; files = g.F.Pieces.faults c.set_out.new.files; runs = g.R.Rendezvous.runs c.offer_and_run.new.how; sink = c.put_end.new.out }) (Answered c.command_answer-answer.result))
    c.in-Ok.ensures.setting (subst (λ (a : CommandAnswer). Does outside (setting_of c.set_out.new.parts) one found (record { state = state_of c.finish_load.new.self; files = g.F.Pieces.faults c.set_out.new.files; runs = g.R.Rendezvous.runs c.offer_and_run.new.how; sink = c.put_end.new.out }) (Answered a)) (sym same) came)

pub returns-clause-does : goal.returns-clause-does
returns-clause-does g c =
    let held = HeldWhere (g.F.Pieces.tells c.args.files.now) (g.F.Files.holds c.args.files.now) in
    let sets = c.in-Ok.ensures.answer in
    let same = c.command_answer-answer.ensures ∙ c.verdict.ensures.is_answer in
    let made = sets.from.plan_is in
    let kept =
    subst
    (λ (all : List (Option PatchId)). (entries : List Entry) (offers : List (Option ℕ)) (before : State) (outcome : Outcome) (put : IsPut (setting_of c.set_out.new.parts) entries offers before (state_of c.set_out.new.parts) all) → plan_of c.set_out.new.tables.plan ≡ load_plan (setting_of c.set_out.new.parts) before put.puts offers → outcome.revs ≡ c.as_slice-3.result.now → state_of c.finish_load.new.self ≡ loaded (setting_of c.set_out.new.parts) before put.puts offers (plan_of c.set_out.new.tables.plan) outcome)
    c.as_slice-2.ensures.value c.finish_load.ensures.kept in
    let wrote =
    subst (λ (a : CommandAnswer). Writes {E = SinkFailed} g.S.Sink.stands g.S.Sink.faults c.offer_and_run.new.out c.put_end.new.out (results_text (setting_of c.set_out.new.parts) (state_of c.args.parts.now) (plan_of c.set_out.new.tables.plan) (outcome_of c.offer_and_run.new.outcome) ++ answer_line c.args.names.now a) (Err c.in-Err-put_end.field-0)) same
    (c.in-Err-put_end.ensures (setting_of c.set_out.new.parts) (state_of c.args.parts.now) sets.from.put.puts c.set_out.new.tables.offers.items
    (sym (c.topology-2.ensures.machine ∙ ap (λ (s : Setting). s.machine) c.finish_load.ensures.setting)) made) in
    let one = LoadCommand c.args.force c.args.names.now c.args.beats.now in
    let outside : Outside _ =
    record { stands = g.S.Sink.stands; faults = g.S.Sink.faults; lists = g.R.Rendezvous.lists; held = held } in
    let found : Situation _ =
    record { state = state_of c.args.parts.now; files = g.F.Pieces.faults c.args.files.now; runs = g.R.Rendezvous.runs c.args.how.now; sink = c.args.out.now } in
    let came =
    loading.finished _ _ _ _ _ _ _ sets
    (record { stands = g.S.Sink.stands; faults = g.S.Sink.faults; lists = g.R.Rendezvous.lists }) c.args.beats.now
    (record { runs = g.R.Rendezvous.runs c.args.how.now; sink = c.args.out.now }) (g.R.Rendezvous.runs c.offer_and_run.new.how) c.offer_and_run.new.out c.each_event_keeps_the_rule.ensures.event c.each_event_keeps_the_rule.ensures.opening c.offer_and_run.new.outcome
    (λ s state p is_machine is_plan. c.in-Ok-offer_and_run.ensures.meets s state p (is_machine ∙ sym c.topology.ensures.machine) is_plan) {E = SinkFailed}
    c.verdict.ensures.verdict c.put_end.new.out (Err c.in-Err-put_end.field-0) (state_of c.finish_load.new.self) c.verdict.ensures.holds
    (kept c.in-Ok.catalog.entries c.set_out.new.tables.offers.items (state_of c.args.parts.now) (outcome_of c.offer_and_run.new.outcome) sets.from.put made (sym c.as_slice-3.ensures.value))
    wrote in
    subst (λ (s : Setting). Does outside s one found (record { state = state_of c.finish_load.new.self; files = g.F.Pieces.faults c.set_out.new.files; runs = g.R.Rendezvous.runs c.offer_and_run.new.how; sink = c.put_end.new.out }) WriteFault)
    c.in-Ok.ensures.setting came
