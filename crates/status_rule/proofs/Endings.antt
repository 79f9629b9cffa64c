-- From the last line of a run to what the run wrote.
use Rattle.std.proofs.Common.{◌≡◌, inl, inr, ℕ, List, [], Option, None, Result, Ok, Err, MatchResult, IsSome, refl, sym, subst}
use Rattle.std.proofs.lemmas.List.{append-nil}
use Rattle.std.proofs.lemmas.Bool.{false≢true}
use Rattle.uc_io.specs.Writing.{Grew, Writes}
use Rattle.uc_io.specs.declared.sinks.SinkFailed.{SinkFailed}
use Rattle.status_rule.specs.declared.status.Status.{Status}
use Rattle.status_rule.specs.declared.status.Status.TheVariants.{Done, Usage, BadInput, Short, ReadFault, WriteFault, Panicked, NoMemory}
use Rattle.status_rule.specs.Status.{RanToItsEnd}
use Rattle.status_rule.specs.Causes.{WriteCause}
use Rattle.status_rule.specs.Written.{memory_line, GoesWith, HasText, WroteText, StartsText, Written, Ends}

-- a status of a run in which the count of faults stood still
pub still_cause : (status : Status) (before now : ℕ) → (status ≡ WriteFault → ⊥) → now ≡ before → WriteCause before now status
still_cause Done before now never still = still
still_cause (Usage k) before now never still = still
still_cause BadInput before now never still = still
still_cause Short before now never still = still
still_cause ReadFault before now never still = still
still_cause WriteFault before now never still = absurd (never refl)
still_cause (Panicked t) before now never still = still
still_cause NoMemory before now never still = still

module _ {D : Type 0} (stands : D → List ℕ → Type 0) (faults : D → ℕ) (old new : D) where
  -- the status of a run whose last lines were to be written
  pub Ends-written : (text : List ℕ) (meant status : Status) (wrote : Result (Unit {0}) SinkFailed) → Writes stands faults old new text wrote
      → MatchResult wrote (λ _. status ≡ meant) (λ _. status ≡ WriteFault) → Ends stands faults old new text meant status
  Ends-written text meant status (Ok done) writes is = record { later = writes.later; outcome = inl (is, writes.outcome, writes.still) }
  Ends-written text meant status (Err failed) writes is = record { later = writes.later; outcome = inr (is, writes.outcome.0, writes.outcome.1) }

  -- the cause of the status of a run that was to end otherwise than by a write fault
  pub ended_cause : (text : List ℕ) (meant status : Status) → (meant ≡ WriteFault → ⊥) → Ends stands faults old new text meant status → WriteCause (faults old) (faults new) status
  ended_cause text meant status never ends = elim ends.outcome [
    | inl whole ↦ subst (WriteCause (faults old) (faults new)) (sym whole.0) (still_cause meant (faults old) (faults new) never whole.2)
    | inr cut ↦ subst (WriteCause (faults old) (faults new)) (sym cut.0) cut.2
  ]

module _ {D : Type 0} (texts : Option ℕ → List ℕ → Status → Type 0) (rose : Type 0) (stands : D → List ℕ → Type 0) (faults : D → ℕ) (old new : D) where
  -- a whole text is what a run that came to its end wrote
  written_whole : (status : Status) → RanToItsEnd status → WroteText texts stands old new status → Written texts rose stands old new status
  written_whole Done ran wrote = wrote
  written_whole (Usage k) ran wrote = wrote
  written_whole BadInput ran wrote = wrote
  written_whole Short ran wrote = wrote
  written_whole ReadFault ran wrote = wrote
  written_whole WriteFault ran wrote = absurd ran
  written_whole (Panicked t) ran wrote = wrote
  written_whole NoMemory ran wrote = absurd ran

  -- a run whose last lines are a text of it
  pub Written-ends : (files : Option ℕ) (text : List ℕ) (meant status : Status) → RanToItsEnd meant → texts files text meant → GoesWith files meant → (IsSome files → rose)
      → Ends stands faults old new text meant status → Written texts rose stands old new status
  Written-ends files text meant status ran is_text goes by_fault ends = elim ends.outcome [
    | inl whole ↦
        subst (Written texts rose stands old new) (sym whole.0) (written_whole meant ran (record { files = files; text = text; is_text = is_text; goes = goes; grew = whole.1 }))
    | inr cut ↦
        subst (Written texts rose stands old new) (sym cut.0)
        (record {
          front = cut.1.front;
          line = [];
          starts = record { files = files; text = text; status = meant; is_text = is_text; goes = goes; by_fault = by_fault; is_front = (cut.1.rest, cut.1.split) };
          of_line = (memory_line, refl);
          grew = subst (Grew stands old new) (sym (append-nil cut.1.front)) cut.1.grew;
        })
  ]

  -- a run that wrote nothing before memory ran out
  pub Written-memory : (status : Status) → StartsText texts rose [] → Ends stands faults old new memory_line NoMemory status → Written texts rose stands old new status
  Written-memory status starts ends = elim ends.outcome [
    | inl whole ↦ subst (Written texts rose stands old new) (sym whole.0) (record { front = []; starts = starts; grew = whole.1 })
    | inr cut ↦
        subst (Written texts rose stands old new) (sym cut.0)
        (record { front = []; line = cut.1.front; starts = starts; of_line = (cut.1.rest, cut.1.split); grew = cut.1.grew })
  ]

-- nothing is a front of each text
pub StartsText-nothing : (texts : Option ℕ → List ℕ → Status → Type 0) (rose : Type 0) → HasText texts → StartsText texts rose []
StartsText-nothing texts rose has = record {
  files = None;
  text = has.text;
  status = has.status;
  is_text = has.is_text;
  goes = has.goes;
  by_fault = λ some. absurd (false≢true some);
  is_front = (has.text, refl);
}
