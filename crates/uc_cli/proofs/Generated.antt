-- A generated session that was played on the generated bundle.
use Rattle.std.proofs.Common.{◌≡◌, ◌≢◌, ℕ, Bool, true, false, List, [], Option, None, refl, sym, ◌∙◌, ap, subst, arith}
use Rattle.std.specs.Prelude.{codes, bytes_eq}
use Rattle.std.specs.Option.{unwrap_or}
use Rattle.std.proofs.lemmas.Bool.Decides.{not_from_Decides}
use Rattle.std.proofs.lemmas.Slice.Eq.{bytes_eq-Decides}
use Rattle.uc_io.specs.Faults.{Rose}
use Rattle.uc_io.specs.Putting.{Puts}
use Rattle.uc_topology.specs.Stated.{Machine}
use Rattle.uc_topology.specs.Texts as topology
use Rattle.uc_gen.specs.declared.tally.TallySink.{TallySink}
use Rattle.uc_gen.specs.Bundle.{intel_file}
use Rattle.uc_gen.specs.Tally.{Tallies}
use Rattle.uc_gen.specs.Texts.{topology_text, script_text}
use Rattle.gen_laws.specs.Stated.{machine_of, script_of, limits_of as generated_limits}
use Rattle.tool_text.specs.read_model.Reads.{AreHeld}
use Rattle.tool_text.specs.rendezvous_rule.Runs.{RunOf}
use Rattle.tool_text.specs.script_text.Stated.{Stated}
use Rattle.tool_text.specs.script_text.Texts.{States}
use Rattle.tool_text.specs.script_text.Within.{IsWithin}
use Rattle.tool_text.proofs.script_text.Kept.{within}
use Rattle.tool_text.specs.session_text.declared.answers.SessionAnswer.{SessionAnswer}
use Rattle.tool_text.specs.session_text.declared.answers.SessionAnswer.TheVariants as session
use Rattle.tool_text.specs.session_steps.Session.{texts_from, all_reads}
use Rattle.tool_text.specs.session_steps.Calls.{Outside, HeldWhere, Surroundings}
use Rattle.tool_text.specs.session_steps.Whole.{PlaysWhole, IsPlayedThrough}
use Rattle.tool_text.specs.command_laws.Steps.{SessionsExist}
use Rattle.tool_text.specs.Plays.{limits_of, setting_of, bundle, IsGenerated}
use Rattle.tool_laws.proofs.SomePlay.{limits_are}
use Rattle.uc_cli.specs.Generating.{WasPlayed}

-- ---- the bundle

apart : (name : List ℕ) → bytes_eq name (codes "bundle.bin") ≡ false → name ≢ codes "bundle.bin"
apart name other = not_from_Decides (bytes_eq name (codes "bundle.bin")) (bytes_eq-Decides name (codes "bundle.bin")) other

module _ (number : ℕ) (old new : List ℕ → Option (List ℕ)) (bytes : List ℕ) (puts : Puts old new (codes "bundle.bin") bytes)
    (none : (name : List ℕ) → old name ≡ None) (is : bytes ≡ intel_file number) where
  held_at : (name : List ℕ) (same : Bool) → bytes_eq name (codes "bundle.bin") ≡ same →
      unwrap_or (new name) [] ≡ bundle number name
  held_at name true same =
      let named : name ≡ codes "bundle.bin" = (bytes_eq-Decides name (codes "bundle.bin")).0 same in
      ap (λ (n : List ℕ). unwrap_or (new n) []) named ∙ ap (λ (o : Option (List ℕ)). unwrap_or o []) puts.there ∙ is ∙ rw same refl
  held_at name false other =
      ap (λ (o : Option (List ℕ)). unwrap_or o []) (puts.others name (apart name other) ∙ none name) ∙ rw other refl

  pub holds_bundle : (λ (name : List ℕ). unwrap_or (new name) []) ≡ bundle number
  holds_bundle = λ i name. held_at name (bytes_eq name (codes "bundle.bin")) refl i

-- ---- the session

module _ (sessions : SessionsExist) (number : ℕ) (topologies : (n : ℕ) → topology.States (topology_text n) (machine_of n))
    (scripts : (n : ℕ) → States generated_limits (script_text n) (script_of n)) where
  states : States (limits_of (machine_of number)) (script_text number) (script_of number)
  states = subst (λ limits. States limits (script_text number) (script_of number)) (limits_are sessions topologies scripts number) (scripts number)

  pub is_within : (machine : Machine) (script : Stated) → machine ≡ machine_of number → script ≡ script_of number →
      IsWithin (limits_of machine) script
  is_within machine script is_machine is_script =
      subst (λ (m : Machine). IsWithin (limits_of m) script) (sym is_machine)
      (subst (IsWithin (limits_of (machine_of number))) (sym is_script)
      (within (limits_of (machine_of number)) (script_text number) (script_of number) states))

  never : {A : Type 0} → Rose 0 0 → A
  never rose = absurd (grind (arith, rose))

  module _ (machine : Machine) (script : Stated) (is_machine : machine ≡ machine_of number) (is_script : script ≡ script_of number)
      (holds : List ℕ → List ℕ) (is_bundle : holds ≡ bundle number) (runs_before runs_now : List RunOf) (first last : TallySink)
      (empty : Tallies first []) where
    abbrev outside : Outside TallySink
    outside = record { stands = Tallies; faults = λ sink. 0; lists = true; held = HeldWhere (Unit {0}) holds }

    abbrev before : Surroundings TallySink
    before = record { files = 0; runs = runs_before; sink = first }

    abbrev now : Surroundings TallySink
    now = record { files = 0; runs = runs_now; sink = last }

    whole : (answer : SessionAnswer)
        (is : PlaysWhole outside (setting_of machine script) script.commands before now answer) →
        IsGenerated number (texts_from 1 script.commands is.dids) answer
    whole answer is = record {
      machine = machine;
      is_machine = subst (topology.States (topology_text number)) (sym is_machine) (topologies number);
      stated = script;
      is_script =
          subst (λ (m : Machine). States (limits_of m) (script_text number) script) (sym is_machine)
          (subst (States (limits_of (machine_of number)) (script_text number)) (sym is_script) states);
      reads = all_reads is.dids;
      held = subst (λ (h : List ℕ → List ℕ). AreHeld h (all_reads is.dids)) is_bundle (is.may.is_held tt);
      plays = record {
        dids = is.dids;
        steps = is.may.steps;
        all = refl;
        lines = refl;
        is_answer = is.is_answer;
      };
    }

    pub was_played : (answer : SessionAnswer) → answer ≢ session.NoMemory →
        IsPlayedThrough outside (setting_of machine script) script.commands before now answer →
        WasPlayed number answer last
    was_played session.Ended other is =
        record { whole = texts_from 1 script.commands is.dids; generated = whole session.Ended is; tallies = is.grew.each [] empty; ran = tt; goes = tt }
    was_played session.Short other is =
        record { whole = texts_from 1 script.commands is.dids; generated = whole session.Short is; tallies = is.grew.each [] empty; ran = tt; goes = tt }
    was_played session.BadInput other is =
        record { whole = texts_from 1 script.commands is.dids; generated = whole session.BadInput is; tallies = is.grew.each [] empty; ran = tt; goes = tt }
    was_played session.ReadFault other is = never is.cause
    was_played session.WriteFault other is = never is.1
    was_played (session.Panicked t) other is =
        record { whole = texts_from 1 script.commands is.dids; generated = whole (session.Panicked t) is; tallies = is.grew.each [] empty; ran = tt; goes = tt }
    was_played session.NoMemory other is = absurd (other refl)
