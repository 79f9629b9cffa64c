-- Whatever the files hold, there is a text for a session that is played, and one for a session that is generated, in which
-- no read fails.
use Rattle.std.proofs.Common.{◌≡◌, inl, inr, ℕ, ◌+◌, ◌/◌, true, false, ◌&&◌, nat_le, List, [], ◌∷◌, length, get_or, Option, None, refl, sym, subst}
use Rattle.std.specs.List.{All, list_all}
use Rattle.std.proofs.lemmas.Bool.{false≢true, cases_lt, leb-true, ltb-true, and_parts}
use Rattle.std.proofs.lemmas.List.Sums.{AllPass-from_list_all}
use Rattle.std.proofs.lemmas.List.FromFn.{length-map-range_with_len}
use Rattle.uc_topology.specs.declared.fault.TopoCause.{TopoCause}
use Rattle.uc_topology.specs.declared.fault.TopoCause.TheVariants as topo
use Rattle.uc_topology.specs.Stated.{Machine, IsPartition}
use Rattle.uc_topology.specs.Texts as topology
use Rattle.uc_topology.proofs.Laws.{one_each as one_each_topology}
use Rattle.uc_topology.proofs.Partition.{partition}
use Rattle.uc_gen.specs.Texts.{topology_text, script_text}
use Rattle.gen_laws.specs.Stated as generated
use Rattle.read_model.specs.declared.TheConstants.{TOPOLOGY_LIMIT}
use Rattle.read_model.specs.Accepts.{IsMachine, RefusesTopology}
use Rattle.read_model.specs.Reads.{Read, AreHeld}
use Rattle.read_model.proofs.Outcomes.{held_nil, held_one, held_cons}
use Rattle.tool_text.specs.report_text.Lines.{topology_line}
use Rattle.play_laws.proofs.Exist.{always_runs}
use Rattle.tool_text.specs.rendezvous_steps.ItemText.{item_line}
use Rattle.script_text.specs.declared.command.Command.{Command}
use Rattle.script_text.specs.declared.command.Command.TheVariants as command
use Rattle.script_text.specs.declared.fault.ScriptCause.{ScriptCause}
use Rattle.script_text.specs.declared.fault.ScriptCause.TheVariants.{TooLong}
use Rattle.script_text.specs.declared.forms.Limits.{Limits}
use Rattle.script_text.specs.Stated.{Stated}
use Rattle.script_text.specs.Texts.{States}
use Rattle.script_text.specs.Within.{fits_command, fits_beat, events_of, IsWithin}
use Rattle.script_text.proofs.OneReading.{one_each}
use Rattle.script_text.proofs.Kept.{within}
use Rattle.script_text.specs.declared.TheConstants.{SCRIPT_LIMIT}
use Rattle.script_text.specs.Accepts.{IsScript, RefusesScript}
use Rattle.script_text.specs.Lines.{script_line}
use Rattle.tool_text.specs.session_text.declared.answers.SessionAnswer.{SessionAnswer}
use Rattle.tool_text.specs.session_text.declared.answers.SessionAnswer.TheVariants as session
use Rattle.tool_text.specs.session_steps.State.{opening_state}
use Rattle.tool_text.specs.session_steps.Session.{texts_from, all_reads, session_answer}
use Rattle.tool_text.specs.session_steps.Whole.{is_unread}
use Rattle.session_laws.specs.Standing.{InRange}
use Rattle.session_laws.proofs.Stands.{opening_stands}
use Rattle.command_laws.specs.Steps.{SessionsExist}
use Rattle.status_rule.specs.Written.{HasText, GoesWith}
use Rattle.status_rule.specs.declared.status.Status.{Status}
use Rattle.status_rule.specs.declared.status.Status.TheVariants.{BadInput}
use Rattle.tool_text.specs.Plays.{limits_of, setting_of, status_of, unread_after, Plays, PlayText, GenText, bundle, summary_line}
use Rattle.tool_text.specs.Tool.{FromReads}

-- ---- a script's commands name threads and cores that are there

in_range : (machine : Machine) (script : Stated) (one : Command) → fits_command (limits_of machine) one ≡ true →
    InRange (setting_of machine script) one
in_range machine script (command.Boot names) fits = leb-true (length names) 16 fits
in_range machine script (command.Online t) fits = ltb-true t (length machine.stated.threads) fits
in_range machine script (command.Offline t) fits = ltb-true t (length machine.stated.threads) fits
in_range machine script command.Suspend fits = tt
in_range machine script command.Resume fits = tt
in_range machine script (command.Refuse core) fits = ltb-true core (length machine.stated.cores) fits
in_range machine script (command.Accept core) fits = ltb-true core (length machine.stated.cores) fits
in_range machine script (command.Load force names beats) fits =
    let limits = limits_of machine in
    let parts = and_parts (nat_le 1 (length names) && nat_le (length names) 16) (nat_le (events_of limits beats)
    4194304 && list_all (fits_beat limits) beats) fits in
    leb-true (length names) 16 (and_parts (nat_le 1 (length names)) (nat_le (length names) 16) parts.0).1

pub all_in_range : (machine : Machine) (script : Stated) → IsWithin (limits_of machine) script →
    All (λ one. InRange (setting_of machine script) one) script.commands
all_in_range machine script is k d below =
    in_range machine script (get_or script.commands k d) (AllPass-from_list_all (fits_command (limits_of machine))
    script.commands is.each k d below)

-- ---- a session

-- where every file was read, the run ends with no read fault
goes_read : (answer : SessionAnswer) → is_unread answer ≡ false → GoesWith None (status_of answer)
goes_read session.Ended read = tt
goes_read session.Short read = tt
goes_read session.BadInput read = tt
goes_read session.ReadFault read = absurd (false≢true (sym read))
goes_read session.WriteFault read = tt
goes_read (session.Panicked t) read = tt
goes_read session.NoMemory read = tt

none_unread : (count : ℕ) (answer : SessionAnswer) → is_unread answer ≡ false → None ≡ unread_after count answer
none_unread count session.Ended read = refl
none_unread count session.Short read = refl
none_unread count session.BadInput read = refl
none_unread count session.ReadFault read = absurd (false≢true (sym read))
none_unread count session.WriteFault read = refl
none_unread count (session.Panicked t) read = refl
none_unread count session.NoMemory read = refl

-- what the commands of a script come to, where the files hold this
record SomePlay (machine : Machine) (script : Stated) (holds : List ℕ → List ℕ) : Type 0 where
  reads : List Read
  held : AreHeld holds reads
  text : List ℕ
  answer : SessionAnswer
  plays : Plays machine script reads text answer
  read : is_unread answer ≡ false

module _ (sessions : SessionsExist) where
  some_play : (machine : Machine) (script : Stated) (holds : List ℕ → List ℕ) → IsPartition machine.stated →
      IsWithin (limits_of machine) script → SomePlay machine script holds
  some_play machine script holds is_partition is_within =
      let setting = setting_of machine script in
      let some = sessions true setting (opening_state setting) script.commands holds (always_runs item_line true)
      is_partition (opening_stands setting) (all_in_range machine script is_within) in
      record {
        reads = all_reads some.dids;
        held = some.held;
        text = texts_from 1 script.commands some.dids;
        answer = session_answer some.dids;
        plays = record { dids = some.dids; steps = some.steps; all = refl; lines = refl; is_answer = refl };
        read = some.all_read;
      }

  -- `play`
  module _ (topology script : List ℕ) (holds : List ℕ → List ℕ) where
    abbrev PlayTexts : Option ℕ → List ℕ → Status → Type 0
    PlayTexts = FromReads (Unit {0}) holds (PlayText topology script)

    abbrev read_of : List ℕ → Read
    read_of name = record { name = name; bytes = holds name }

    script_plays : (machine : Machine) → IsMachine (holds topology) machine → (stated : Stated) →
        IsScript (limits_of machine) (holds script) stated → HasText PlayTexts
    script_plays machine is stated is_script =
        let some = some_play machine stated holds (partition (holds topology) machine is.states)
        (within (limits_of machine) (holds script) stated is_script.states) in
        record {
          text = some.text;
          status = status_of some.answer;
          is_text = record {
            reads = read_of topology ∷ read_of script ∷ some.reads;
            held = λ told. held_cons holds (read_of topology) (read_of script ∷ some.reads)
                refl (held_cons holds (read_of script) some.reads refl some.held);
            is_text = inr
                (record {
                  machine = machine;
                  behind = read_of script ∷ some.reads;
                  states = record { bytes = holds topology; first = refl; is_machine = is };
                  played = inr
                      (record {
                        bytes = holds script;
                        behind = some.reads;
                        first = refl;
                        stated = stated;
                        is_script = is_script;
                        answer = some.answer;
                        plays = some.plays;
                        is_status = refl;
                        count = none_unread (2 + length some.reads) some.answer some.read;
                      });
                });
          };
          goes = goes_read some.answer some.read;
        }

    script_refused : (machine : Machine) → IsMachine (holds topology) machine → (line : ℕ) (cause : ScriptCause) →
        RefusesScript (limits_of machine) (holds script) line cause → HasText PlayTexts
    script_refused machine is line cause refuses = record {
      text = script_line line cause;
      status = BadInput;
      is_text = record {
        reads = read_of topology ∷ read_of script ∷ [];
        held = λ told. held_cons holds (read_of topology) (read_of script ∷ []) refl (held_one holds (read_of script)
            refl);
        is_text = inr
            (record {
              machine = machine;
              behind = read_of script ∷ [];
              states = record { bytes = holds topology; first = refl; is_machine = is };
              played = inl (record {
                bytes = holds script;
                only = refl;
                line = line;
                cause = cause;
                refuses = refuses;
                lines = refl;
              });
            });
      };
      goes = tt;
    }

    topology_refused : (line : ℕ) (cause : TopoCause) → RefusesTopology (holds topology) line cause → HasText PlayTexts
    topology_refused line cause refuses = record {
      text = topology_line line cause;
      status = BadInput;
      is_text = record {
        reads = read_of topology ∷ [];
        held = λ told. held_one holds (read_of topology) refl;
        is_text = inl (record {
          bytes = holds topology;
          only = refl;
          line = line;
          cause = cause;
          refuses = refuses;
          lines = refl;
        });
      };
      goes = tt;
    }

    of_machine : (machine : Machine) → IsMachine (holds topology) machine → HasText PlayTexts
    of_machine machine is = elim (cases_lt SCRIPT_LIMIT (length (holds script))) [
      | inl long ↦ script_refused machine is 0 TooLong (inl (long, refl, refl))
      | inr short ↦ elim (one_each (limits_of machine) (holds script)) [
        | inl states ↦ script_plays machine is states.0 (record { within = short; states = states.1 })
        | inr fault ↦ script_refused machine is fault.0.line fault.0.cause (inr (short, fault.1))
      ]
    ]

    pub play_text : HasText PlayTexts
    play_text = elim (cases_lt TOPOLOGY_LIMIT (length (holds topology))) [
      | inl long ↦ topology_refused 0 topo.TooLong (inl (long, refl, refl))
      | inr short ↦ elim (one_each_topology (holds topology)) [
        | inl states ↦ of_machine states.0 (record { within = short; states = states.1 })
        | inr fault ↦ topology_refused fault.0.line fault.0.cause (inr (short, fault.1))
      ]
    ]

  -- `gen`
  module _ (topologies : (number : ℕ) → topology.States (topology_text number) (generated.machine_of number))
      (scripts : (number : ℕ) → States generated.limits_of (script_text number) (generated.script_of number)) where
    -- the script is for that machine
    pub limits_are : (number : ℕ) → generated.limits_of ≡ limits_of (generated.machine_of number)
    unfolding generated.cores_of generated.threads_of
    limits_are number =
        let half : ℕ → ℕ = λ thread. thread / 2 in
        let threads : length (generated.threads_of 256) ≡ 256 = length-map-range_with_len half 0 256 in
        let cores : length (generated.cores_of number 128) ≡ 128 = length-map-range_with_len (generated.core_of
        number) 0 128 in
        λ i. record { threads = sym threads i; cores = sym cores i }

    pub gen_text : (number : ℕ) (holds : List ℕ → List ℕ) → HasText (FromReads (Unit {0}) holds (GenText number))
    gen_text number holds =
        let machine = generated.machine_of number in
        let script = generated.script_of number in
        let states = subst (λ (limits : Limits). States limits (script_text number) script) (limits_are number)
        (scripts number) in
        let some = some_play machine script (bundle number) (partition (topology_text number)
        machine (topologies number)) (within (limits_of machine) (script_text number) script states) in
        record {
          text = summary_line number some.text;
          status = status_of some.answer;
          is_text = record {
            reads = [];
            held = λ told. held_nil holds;
            is_text = record {
              no_reads = refl;
              none_fails = refl;
              whole = some.text;
              answer = some.answer;
              generated = record {
                machine = machine;
                is_machine = topologies number;
                stated = script;
                is_script = states;
                reads = some.reads;
                held = some.held;
                plays = some.plays;
              };
              lines = refl;
              is_status = refl;
            };
          };
          goes = goes_read some.answer some.read;
        }
