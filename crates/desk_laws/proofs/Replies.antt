-- What a reload replies.
use Rattle.std.proofs.Common.{◌≡◌, ℕ, ◌<◌, ◌≤◌, codes, Bool, true, false, List, [], ◌∷◌, Option, Some, None, refl, sym, ap, ◌∙◌, subst, inl, inr, if◌then◌else◌, arith}
use Rattle.std.specs.List.{All}
use Rattle.std.proofs.lemmas.Bool.{cases_lt, lt-ltb}
use Rattle.std.proofs.lemmas.List.Elements.{All-nil, All-cons}
use Rattle.session_steps.specs.rendezvous_steps.declared.ends.Beat.{Beat}
use Rattle.session_steps.specs.rendezvous_steps.declared.ends.Beat.TheVariants.{Rounds}
use Rattle.session_steps.specs.rendezvous_steps.ItemText.{item_line}
use Rattle.session_steps.specs.rendezvous_steps.Plan.{Plan}
use Rattle.session_steps.specs.rendezvous_steps.Padded.{Padded}
use Rattle.session_steps.specs.rendezvous_model.Verdict.{LoadVerdict}
use Rattle.session_steps.specs.rendezvous_model.Verdict as verdict
use Rattle.session_steps.specs.machine_steps.Puts.{Puts}
use Rattle.session_steps.specs.session_text.declared.answers.CommandAnswer.{CommandAnswer}
use Rattle.session_steps.specs.session_text.declared.answers.CommandAnswer.TheVariants.{Done, Hot, Load}
use Rattle.session_steps.specs.session_text.declared.answers.LoadAnswer.TheVariants as load
use Rattle.session_steps.specs.State.{Setting, State, machine_of}
use Rattle.session_steps.specs.Offers.{plan_of}
use Rattle.session_steps.specs.Did.{Did}
use Rattle.session_steps.specs.Step.{LoadRow, Meets, answer_of}
use Rattle.session_steps.specs.Played.{is_read_fault}
use Rattle.round_laws.specs.Laws.{VerdictIsOne}
use Rattle.play_laws.specs.Stuck.{IsEnough}
use Rattle.play_laws.specs.Patient.{NoneRefuses as NoGroupRefuses, PatientIsDone, is_in_time}
use Rattle.ctl_core.specs.Laws.{ListedIsPlayed}
use Rattle.desk_steps.specs.declared.calls.DeskReply.TheVariants.{Command}
use Rattle.desk_steps.specs.declared.calls.DeskReply.{DeskReply}
use Rattle.desk_steps.specs.Run.{enough_rounds}
use Rattle.desk_laws.specs.Laws.{is_reload_reply, ReloadReplies}
use Rattle.desk_laws.proofs.Refusals.{none_refuses}

-- the schedule of a reload
abbrev beats_of : Setting → List Beat
beats_of setting = Rounds (enough_rounds (machine_of setting).threads) ∷ []

all_in_time : (setting : Setting) → All (λ beat. is_in_time beat ≡ true) (beats_of setting)
all_in_time setting =
    All-cons (λ beat. is_in_time beat ≡ true) (Rounds (enough_rounds (machine_of setting).threads)) [] refl (All-nil (λ beat. is_in_time beat ≡ true))

module _ (setting : Setting) (state : State) (puts : Puts) (offers : List (Option ℕ)) where
  enough : IsEnough (plan_of setting state puts offers) (beats_of setting)
  unfolding plan_of
  enough = omega arith

  refuse_in : (g : ℕ) → g < (machine_of setting).groups →
      (plan_of setting state puts offers).refuse g ≡ state.hardware.refuses g
  unfolding plan_of
  refuse_in g below =
      ap (λ (b : Bool). if b then state.hardware.refuses g else false) (lt-ltb g (machine_of setting).groups below)

  no_offer_past : Padded (plan_of setting state puts offers) → (g : ℕ) → (machine_of setting).groups ≤ g →
      (plan_of setting state puts offers).offer g ≡ None
  unfolding plan_of
  no_offer_past padded g behind = padded.no_offer g behind

  no_group_refuses : Padded (plan_of setting state puts offers) → ((g : ℕ) → state.hardware.refuses g ≡ false) →
      NoGroupRefuses (plan_of setting state puts offers)
  no_group_refuses padded none g offer is = elim (cases_lt g (machine_of setting).groups) [
    | inl below ↦ refuse_in g below ∙ none g
    | inr behind ↦ let wrong : None ≡ Some offer = sym (no_offer_past padded g behind) ∙ is in absurd cc
  ]

module _ (played : ListedIsPlayed) (patient : PatientIsDone) (one_verdict : VerdictIsOne) (setting : Setting)
    (state : State) (none : (g : ℕ) → state.hardware.refuses g ≡ false) (did : Did) (names : List (List ℕ)) where
  -- threads that meet do so in time
  met_done : (answer : CommandAnswer) → Meets true setting state false names (beats_of setting) did answer →
      answer ≡ Done
  met_done answer meets =
      let plan : Plan = plan_of setting state meets.puts meets.offers in
      let its : LoadVerdict plan meets.outcome verdict.Done =
      patient plan (beats_of setting) meets.outcome meets.sound meets.padded
      (no_group_refuses setting state meets.puts meets.offers meets.padded none) (all_in_time setting)
      (enough setting state meets.puts meets.offers)
      (played item_line plan (beats_of setting) meets.items meets.outcome meets.ran).comes_out in
      meets.is_answer
      ∙ ap answer_of (one_verdict plan meets.outcome meets.verdict meets.is_verdict
      ∙ sym (one_verdict plan meets.outcome verdict.Done its))

  not_met : (answer : CommandAnswer) → Meets true setting state false names (beats_of setting) did answer →
      is_reload_reply (Command answer) ≡ true
  not_met answer meets = ap (λ (a : CommandAnswer). is_reload_reply (Command a)) (met_done answer meets)

  one_of_five : (answer : CommandAnswer) →
      LoadRow true setting state false names (beats_of setting) did answer → is_read_fault answer ≡ false →
      is_reload_reply (Command answer) ≡ true
  one_of_five (Hot answer) row read = absurd row.1
  one_of_five (Load (load.Busy t)) row read = refl
  one_of_five (Load (load.ReadFault file)) row read = absurd cc
  one_of_five (Load (load.BadFile file fault)) row read = refl
  one_of_five (Load load.NotFound) row read = refl
  one_of_five (Load (load.PoolFull needed)) row read = refl
  one_of_five Done row read = refl
  one_of_five (Load answer) row read = not_met (Load answer) row.1

pub reload_replies : ListedIsPlayed → PatientIsDone → VerdictIsOne → ReloadReplies
reload_replies played patient one_verdict setting file entries state next reply run leads =
    ap is_reload_reply leads.replies
    ∙ one_of_five played patient one_verdict setting state (none_refuses setting file entries state run) leads.did (codes "update" ∷ [])
    leads.did.answer leads.step leads.all_read
