-- Whatever the files hold, there is a text for a session whose threads really run, in which no read fails.
use Rattle.std.proofs.Common.{inl, inr, ℕ, ◌+◌, ◌<◌, ◌≤◌, Bool, List, [], ◌∷◌, length, Option, refl, sym, subst}
use Rattle.std.proofs.lemmas.Bool.{cases_lt}
use Rattle.uc_topology.specs.declared.fault.TopoCause.{TopoCause}
use Rattle.uc_topology.specs.declared.fault.TopoCause.TheVariants as topo
use Rattle.uc_topology.specs.Stated.{Machine}
use Rattle.uc_topology.proofs.Laws.{one_each as one_each_topology}
use Rattle.uc_topology.proofs.Partition.{partition}
use Rattle.read_model.specs.declared.TheConstants.{TOPOLOGY_LIMIT}
use Rattle.read_model.specs.Accepts.{IsMachine, RefusesTopology}
use Rattle.read_model.specs.Reads.{Read}
use Rattle.read_model.proofs.Outcomes.{held_one, held_cons}
use Rattle.tool_text.specs.report_text.Lines.{topology_line}
use Rattle.tool_text.specs.rendezvous_rule.Runs.{RunOf, AlwaysRuns}
use Rattle.tool_text.specs.rendezvous_steps.ItemText.{item_line}
use Rattle.script_text.specs.declared.fault.ScriptCause.{ScriptCause}
use Rattle.script_text.specs.declared.fault.ScriptCause.TheVariants.{TooLong}
use Rattle.script_text.specs.Stated.{Stated}
use Rattle.script_text.proofs.OneReading.{one_each}
use Rattle.script_text.proofs.Kept.{within}
use Rattle.script_text.specs.declared.TheConstants.{SCRIPT_LIMIT}
use Rattle.script_text.specs.Accepts.{IsScript, RefusesScript}
use Rattle.script_text.specs.Lines.{script_line}
use Rattle.session_text.specs.declared.answers.SessionAnswer.{SessionAnswer}
use Rattle.tool_text.specs.session_steps.State.{opening_state}
use Rattle.tool_text.specs.session_steps.Session.{texts_from, all_reads, all_runs, session_answer}
use Rattle.session_laws.proofs.Stands.{opening_stands}
use Rattle.command_laws.specs.Steps.{SessionsExist}
use Rattle.status_rule.specs.Written.{HasText, GoesWith}
use Rattle.status_rule.specs.declared.status.Status.{Status}
use Rattle.status_rule.specs.declared.status.Status.TheVariants.{BadInput}
use Rattle.tool_text.specs.Plays.{limits_of, setting_of, status_of}
use Rattle.cut_laws.proofs.Within.{all_in_range}
use Rattle.live_cli.proofs.Ended.{goes, none_unread}
use Rattle.live_cli.specs.Texts.{FromRuns, SessionText}

-- nothing is said of the runs
abbrev pub AnyRuns : List RunOf → Type 0
AnyRuns runs = Unit {0}

module _ (sessions : SessionsExist) (lists : Bool) (always : AlwaysRuns item_line lists) (most : ℕ)
    (topology script : List ℕ) (holds : List ℕ → List ℕ) where
  abbrev Texts : Option ℕ → List ℕ → Status → Type 0
  Texts = FromRuns (Unit {0}) holds AnyRuns (SessionText (record { lists = lists; most = most }) topology script)

  abbrev read_of : List ℕ → Read
  read_of name = record { name = name; bytes = holds name }

  script_plays : (machine : Machine) → IsMachine (holds topology) machine → length machine.stated.threads ≤ most →
      (stated : Stated) → IsScript (limits_of machine) (holds script) stated → HasText Texts
  script_plays machine is few stated is_script =
      let setting = setting_of machine stated in
      let some = sessions lists setting (opening_state setting) stated.commands holds always
      (partition (holds topology) machine is.states) (opening_stands setting)
      (all_in_range setting stated.commands (within (limits_of machine) (holds script) stated is_script.states).each) in
      let answer : SessionAnswer = session_answer some.dids in
      record {
        text = texts_from 1 stated.commands some.dids;
        status = status_of answer;
        is_text = record {
          course = record { reads = read_of topology ∷ read_of script ∷ all_reads some.dids; runs = all_runs some.dids };
          held = λ told. held_cons holds (read_of topology) (read_of script ∷ all_reads some.dids) refl
              (held_cons holds (read_of script) (all_reads some.dids) refl some.held);
          is_kept = tt;
          is_text = inr (inr (record {
            machine = machine;
            behind = read_of script ∷ all_reads some.dids;
            states = record { bytes = holds topology; first = refl; is_machine = is };
            few = few;
            played = inr (record {
              bytes = holds script;
              behind = all_reads some.dids;
              first = refl;
              stated = stated;
              is_script = is_script;
              answer = answer;
              plays = record { dids = some.dids; steps = some.steps; all = refl; held = refl; lines = refl; is_answer = refl };
              is_status = refl;
              count = sym (none_unread (2 + length (all_reads some.dids)) answer some.all_read);
            });
          }));
        };
        goes = subst (λ (files : Option ℕ). GoesWith files (status_of answer))
            (none_unread (2 + length (all_reads some.dids)) answer some.all_read)
            (goes (2 + length (all_reads some.dids)) answer);
      }

  script_refused : (machine : Machine) → IsMachine (holds topology) machine → length machine.stated.threads ≤ most →
      (line : ℕ) (cause : ScriptCause) → RefusesScript (limits_of machine) (holds script) line cause → HasText Texts
  script_refused machine is few line cause refuses = record {
    text = script_line line cause;
    status = BadInput;
    is_text = record {
      course = record { reads = read_of topology ∷ read_of script ∷ []; runs = [] };
      held = λ told. held_cons holds (read_of topology) (read_of script ∷ []) refl (held_one holds (read_of script)
          refl);
      is_kept = tt;
      is_text = inr (inr (record {
        machine = machine;
        behind = read_of script ∷ [];
        states = record { bytes = holds topology; first = refl; is_machine = is };
        few = few;
        played = inl (
          refl,
          record {
            bytes = holds script;
            only = refl;
            line = line;
            cause = cause;
            refuses = refuses;
            lines = refl;
          },
        );
      }));
    };
    goes = tt;
  }

  topology_refused : (line : ℕ) (cause : TopoCause) → RefusesTopology (holds topology) line cause → HasText Texts
  topology_refused line cause refuses = record {
    text = topology_line line cause;
    status = BadInput;
    is_text = record {
      course = record { reads = read_of topology ∷ []; runs = [] };
      held = λ told. held_one holds (read_of topology) refl;
      is_kept = tt;
      is_text = inl (
        refl,
        record {
          bytes = holds topology;
          only = refl;
          line = line;
          cause = cause;
          refuses = refuses;
          lines = refl;
        },
      );
    };
    goes = tt;
  }

  too_many : (machine : Machine) → IsMachine (holds topology) machine → most < length machine.stated.threads →
      HasText Texts
  too_many machine is many = record {
    text = topology_line 0 topo.LiveLimit;
    status = BadInput;
    is_text = record {
      course = record { reads = read_of topology ∷ []; runs = [] };
      held = λ told. held_one holds (read_of topology) refl;
      is_kept = tt;
      is_text = inr (inl (
        refl,
        record {
          machine = machine;
          states = record { bytes = holds topology; first = refl; is_machine = is };
          many = many;
          lines = refl;
        },
      ));
    };
    goes = tt;
  }

  of_few : (machine : Machine) → IsMachine (holds topology) machine → length machine.stated.threads ≤ most →
      HasText Texts
  of_few machine is few = elim (cases_lt SCRIPT_LIMIT (length (holds script))) [
    | inl long ↦ script_refused machine is few 0 TooLong (inl (long, refl, refl))
    | inr short ↦ elim (one_each (limits_of machine) (holds script)) [
      | inl states ↦ script_plays machine is few states.0 (record { within = short; states = states.1 })
      | inr fault ↦ script_refused machine is few fault.0.line fault.0.cause (inr (short, fault.1))
    ]
  ]

  of_machine : (machine : Machine) → IsMachine (holds topology) machine → HasText Texts
  of_machine machine is = elim (cases_lt most (length machine.stated.threads)) [
    | inl many ↦ too_many machine is many
    | inr few ↦ of_few machine is few
  ]

  pub session_text : HasText Texts
  session_text = elim (cases_lt TOPOLOGY_LIMIT (length (holds topology))) [
    | inl long ↦ topology_refused 0 topo.TooLong (inl (long, refl, refl))
    | inr short ↦ elim (one_each_topology (holds topology)) [
      | inl states ↦ of_machine states.0 (record { within = short; states = states.1 })
      | inr fault ↦ topology_refused fault.0.line fault.0.cause (inr (short, fault.1))
    ]
  ]
