-- What a command did.
use Rattle.std.specs.Prelude.{ℕ, ◌==◌, if◌then◌else◌, List, [], ◌++◌, length, Option, Some, None, Result, Ok, Err}
use Rattle.std.specs.Prelude.{flat_map, slice_index_or}
use Rattle.std.specs.List.{range_with_len}
use Rattle.read_model.specs.Reads.{Read}
use Rattle.rendezvous_steps.specs.declared.steps.Kind.{Kind}
use Rattle.rendezvous_steps.specs.declared.steps.Kind.TheVariants as kind
use Rattle.rendezvous_steps.specs.Plan.{Plan, threads_from}
use Rattle.rendezvous_model.specs.Outcome.{Outcome}
use Rattle.rendezvous_model.specs.Verdict.{end_at}
use Rattle.rendezvous_rule.specs.Runs.{RunOf}
use Rattle.machine_steps.specs.declared.answers.HotAnswer.{HotAnswer}
use Rattle.machine_steps.specs.declared.bring_ups.BringUp.{BringUp}
use Rattle.machine_steps.specs.Hardware.{Hardware}
use Rattle.machine_steps.specs.BringUps.{AllBrought}
use Rattle.machine_steps.specs.Puts.{Puts, first_of, swept}
use Rattle.session_text.specs.declared.answers.CommandAnswer.{CommandAnswer}
use Rattle.session_text.specs.declared.answers.CommandAnswer.TheVariants.{Done, Hot}
use Rattle.session_text.specs.Lines.{up_line, cpu_line, core_line}
use Rattle.session_steps.specs.State.{Setting, State, machine_of, core_takes_part}
use Rattle.session_steps.specs.Offers.{offer_of, group_of_core}

-- the files that were read; the lines before the state changes, which are a load's offers and items, and those after;
-- the answer; the state afterwards; and the rendezvous, where one ran
pub record Did : Type 0 where
  pub reads : List Read
  pub shown : List ℕ
  pub told : List ℕ
  pub answer : CommandAnswer
  pub after : State
  pub ran : Option RunOf

-- an answer, and no more: the state stays as it was
abbrev pub only : State → List Read → CommandAnswer → Did
only state reads answer = record {
  reads = reads;
  shown = [];
  told = [];
  answer = answer;
  after = state;
  ran = None;
}

abbrev pub with_hardware : State → Hardware → State
with_hardware state hardware = record state { hardware = hardware }

-- by a row of the machine
abbrev pub by_row : State → Result Hardware HotAnswer → Did
by_row state (Ok hardware) = only (with_hardware state hardware) [] Done
by_row state (Err answer) = only state [] (Hot answer)

abbrev pub ups_text : List BringUp → List ℕ
ups_text ups = flat_map up_line ups

-- by a row in which threads come up, each with its line
abbrev pub by_bring_ups : State → Result AllBrought HotAnswer → Did
by_bring_ups state (Ok brought) =
    record (only (with_hardware state brought.after) [] Done) { told = ups_text brought.ups }
by_bring_ups state (Err answer) = only state [] (Hot answer)

-- A load whose rendezvous came to an outcome.

-- a thread that took part, with its end, and a core of one, with the revision of its group
abbrev pub cpu_text : Kind → ℕ → Outcome → List ℕ
cpu_text kind.Absent t outcome = []
cpu_text kind t outcome = cpu_line t (end_at outcome t)

-- a group's revision after a load
abbrev pub revision_after : State → Outcome → ℕ → ℕ
revision_after state outcome g = slice_index_or outcome.revs g (state.hardware.rev g)

abbrev pub core_text : Setting → State → Outcome → ℕ → List ℕ
core_text setting state outcome core =
    if core_takes_part setting state core
    then core_line core (revision_after state outcome (group_of_core setting core)) else []

unfoldable pub results_text : Setting → State → Plan → Outcome → List ℕ
results_text setting state plan outcome =
    flat_map (λ t. cpu_text (plan.kind t) t outcome) (threads_from plan 0)
    ++ flat_map (core_text setting state outcome) (range_with_len 0 (length setting.machine.stated.cores))

-- a group whose revision is now what its patch brings caches that patch; the others cache what they did
abbrev pub kept_where : Option ℕ → ℕ → Option ℕ → Option ℕ → Option ℕ
kept_where None rev new old = old
kept_where (Some offer) rev new old = if offer == rev then new else old

abbrev pub cached_after : State → Puts → List (Option ℕ) → Plan → Outcome → ℕ → Option ℕ
cached_after state puts offers plan outcome g =
    kept_where (plan.offer g) (revision_after state outcome g) (first_of puts (offer_of offers g)) (state.cached g)

-- revisions are the outcome's, and of the region just what a group caches stays
unfoldable pub loaded : Setting → State → Puts → List (Option ℕ) → Plan → Outcome → State
loaded setting state puts offers plan outcome =
    let cached = cached_after state puts offers plan outcome in
    record {
      hardware = record state.hardware { rev = revision_after state outcome };
      patches = swept (machine_of setting).groups cached puts.patches;
      cached = cached;
    }
