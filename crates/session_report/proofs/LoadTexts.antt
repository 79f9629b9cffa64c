-- The lines of a load, by the plan that it sets out with.
use Rattle.std.proofs.Common.{◌≡◌, ℕ, ◌<◌, Bool, true, false, if◌then◌else◌, not, ◌&&◌, List, [], length, get_or, Option, None, refl, sym, ap, ◌∙◌, subst, zero, suc, ◌+◌, ◌-◌, ◌≤◌, ◌++◌, arith}
use Rattle.std.proofs.Math.Path.{fun_ext}
use Rattle.std.specs.List.{flat_map, list_any, range_with_len}
use Rattle.std.specs.Prelude.{◌==◌, slice_index}
use Rattle.std.proofs.lemmas.Bool.{lt-ltb, and_from, eq-eqb}
use Rattle.region_steps.proofs.Rows.{any_passes, none_passes}
use Rattle.uc_topology.specs.Stated.{Machine, core_at, group_of, group_count}
use Rattle.entry_model.specs.Entry.{Entry}
use Rattle.rendezvous_steps.specs.declared.steps.Kind.{Kind}
use Rattle.rendezvous_steps.specs.declared.steps.Kind.TheVariants as kind
use Rattle.rendezvous_steps.specs.declared.ends.End.{End}
use Rattle.rendezvous_steps.specs.Plan.{Plan, is_absent, threads_from}
use Rattle.rendezvous_model.specs.Outcome.{Outcome}
use Rattle.machine_steps.specs.declared.states.ThreadState.{ThreadState}
use Rattle.machine_steps.specs.declared.states.ThreadState.TheVariants.{Cold, Up, Offline}
use Rattle.machine_steps.specs.Hardware.{is_cold}
use Rattle.machine_steps.specs.Puts.{Puts}
use Rattle.session_text.specs.Lines.{core_line}
use Rattle.session_steps.specs.State.{Setting, State, machine_of, core_of, core_takes_part}
use Rattle.session_steps.specs.Offers.{offered_text, offer_of, table, kind_of, load_offers_text, plan_of}
use Rattle.session_steps.specs.Did.{cpu_text, core_text, results_text}
use Rattle.session_report.specs.Loads.{ended, takes_part, line_of_core}

-- ---- the plan's tables

table_in : {A : Type 0} (places : ℕ) (each : ℕ → A) (behind : A) (k : ℕ) → k < places → table places each behind k ≡ each k
table_in places each behind k below = ap (λ (b : Bool). if b then each k else behind) (lt-ltb k places below)

-- the plan has these revisions
abbrev pub AreRevisions : Machine → Plan → (ℕ → ℕ) → Type 0
AreRevisions machine plan rev = (g : ℕ) → g < group_count machine.stated.cores → plan.rev0 g ≡ rev g

revisions_at : (setting : Setting) (state : State) (puts : Puts) (offered : List (Option ℕ)) → AreRevisions setting.machine (plan_of setting state puts offered) state.hardware.rev
unfolding plan_of
revisions_at setting state puts offered g below =
    table_in (machine_of setting).groups state.hardware.rev 0 g below

pub are_revisions : (setting : Setting) (state : State) (puts : Puts) (offered : List (Option ℕ)) (machine : Machine) (plan : Plan) → setting.machine ≡ machine → plan ≡ plan_of setting state puts offered → AreRevisions machine plan state.hardware.rev
are_revisions setting state puts offered machine plan is_machine is_plan =
    subst (λ (m : Machine). AreRevisions m plan state.hardware.rev) is_machine
    (subst (λ (p : Plan). AreRevisions setting.machine p state.hardware.rev) (sym is_plan) (revisions_at setting state puts offered))

-- ---- what is offered

-- the line of a core
abbrev pub offer_at : Machine → (ℕ → ℕ) → List Entry → List (Option ℕ) → ℕ → List ℕ
offer_at machine rev entries offers core =
    offered_text entries core (rev (group_of (core_at machine.stated.cores core))) (offer_of offers (group_of (core_at machine.stated.cores core)))

pub offer_is : (machine : Machine) (rev : ℕ → ℕ) (entries : List Entry) (offers : List (Option ℕ)) (core group now : ℕ) → group ≡ group_of (core_at machine.stated.cores core) → now ≡ rev group
    → offered_text entries core now (get_or offers group None) ≡ offer_at machine rev entries offers core
offer_is machine rev entries offers core group now is_group is_now =
    ap (λ (r : ℕ). offered_text entries core r (get_or offers group None)) is_now
    ∙ ap (λ (n : ℕ). offered_text entries core (rev n) (get_or offers n None)) is_group

-- the lines of all cores
pub all_offers : (setting : Setting) (state : State) (machine : Machine) (entries : List Entry) (offers : List (Option ℕ)) → setting.machine ≡ machine
    → flat_map (offer_at machine state.hardware.rev entries offers) (range_with_len 0 (length machine.stated.cores)) ≡ load_offers_text setting state entries offers
unfolding load_offers_text
all_offers setting state machine entries offers is_machine =
    ap (λ (m : Machine). flat_map (offer_at m state.hardware.rev entries offers) (range_with_len 0 (length m.stated.cores))) (sym is_machine)

-- ---- threads

-- the line of a thread goes by its end alone
ends_alone : (kind : Kind) (t : ℕ) (ends : List End) (outcome : Outcome) → ends ≡ outcome.ends → cpu_text kind t (ended ends) ≡ cpu_text kind t outcome
ends_alone kind.Absent t ends outcome same = refl
ends_alone kind.Online t ends outcome same = ap (λ (e : List End). cpu_text kind.Online t (ended e)) same
ends_alone kind.Offline t ends outcome same = ap (λ (e : List End). cpu_text kind.Offline t (ended e)) same

-- its line, by the tables
abbrev pub thread_at : Plan → List End → ℕ → List ℕ
thread_at plan ends t = cpu_text (plan.kind t) t (ended ends)

threads_at : (plan : Plan) (ends : List End) (outcome : Outcome) → ends ≡ outcome.ends
    → flat_map (thread_at plan ends) (range_with_len 0 plan.threads) ≡ flat_map (λ t. cpu_text (plan.kind t) t outcome) (threads_from plan 0)
threads_at plan ends outcome same =
    let all : plan.threads ≡ plan.threads - 0 = omega arith in
    ap (λ (n : ℕ). flat_map (thread_at plan ends) (range_with_len 0 n)) all
    ∙ ap (λ (text : ℕ → List ℕ). flat_map text (threads_from plan 0)) (fun_ext (λ t. ends_alone (plan.kind t) t ends outcome same))

-- ---- cores

-- the thread is of the core, and takes part
abbrev pub is_part : Machine → Plan → ℕ → ℕ → Bool
is_part machine plan core t = (slice_index machine.stated.threads t == core) && not (is_absent (plan.kind t))

any_alike : (one other : ℕ → Bool) (first count : ℕ) → ((k : ℕ) → first ≤ k → k < first + count → one k ≡ other k) → list_any one (range_with_len first count) ≡ list_any other (range_with_len first count)
any_alike one other first zero each = refl
any_alike one other first (suc count) each =
    rw (each first (omega arith) (omega arith), any_alike one other (first + 1) count (λ k low high. each k (omega (arith, low)) (omega (arith, high)))) refl

absent_is_cold : (state : ThreadState) → is_absent (kind_of state) ≡ is_cold state
absent_is_cold Cold = refl
absent_is_cold Up = refl
absent_is_cold Offline = refl

-- who takes part in the plan is who does in the state
part_at : (setting : Setting) (state : State) (puts : Puts) (offered : List (Option ℕ)) (core : ℕ) → takes_part setting.machine (plan_of setting state puts offered) core ≡ core_takes_part setting state core
unfolding takes_part core_takes_part plan_of
part_at setting state puts offered core =
    any_alike _ _ 0 (machine_of setting).threads
    (λ t low high.
    let below : t < (machine_of setting).threads = omega (arith, high) in
    ap (λ (b : Bool). (core_of setting t == core) && not b)
    (ap is_absent (table_in (machine_of setting).threads (λ t. kind_of (state.hardware.thread t)) kind.Absent t below) ∙ absent_is_cold (state.hardware.thread t)))

part_is : (setting : Setting) (state : State) (puts : Puts) (offered : List (Option ℕ)) (machine : Machine) (plan : Plan) (core : ℕ) → setting.machine ≡ machine → plan ≡ plan_of setting state puts offered
    → takes_part machine plan core ≡ core_takes_part setting state core
part_is setting state puts offered machine plan core is_machine is_plan =
    ap (λ (m : Machine). takes_part m plan core) (sym is_machine) ∙ ap (λ (p : Plan). takes_part setting.machine p core) is_plan ∙ part_at setting state puts offered core

core_is : (setting : Setting) (state : State) (puts : Puts) (offered : List (Option ℕ)) (plan : Plan) (outcome : Outcome) (core : ℕ) → plan ≡ plan_of setting state puts offered
    → line_of_core setting.machine plan outcome.revs state.hardware.rev core ≡ core_text setting state outcome core
core_is setting state puts offered plan outcome core is_plan =
    let g : ℕ = group_of (core_at setting.machine.stated.cores core) in
    ap (λ (b : Bool). if b then core_line core (get_or outcome.revs g (state.hardware.rev g)) else [])
    (part_is setting state puts offered setting.machine plan core refl is_plan)

-- ---- all lines of what a rendezvous came to

pub all_results : (setting : Setting) (state : State) (puts : Puts) (offered : List (Option ℕ)) (machine : Machine) (plan : Plan) (outcome : Outcome) → setting.machine ≡ machine → plan ≡ plan_of setting state puts offered
    → flat_map (thread_at plan outcome.ends) (range_with_len 0 plan.threads) ++ flat_map (line_of_core machine plan outcome.revs state.hardware.rev) (range_with_len 0 (length machine.stated.cores)) ≡ results_text setting state plan outcome
unfolding results_text
all_results setting state puts offered machine plan outcome is_machine is_plan =
    ap (λ (text : List ℕ). text ++ flat_map (line_of_core machine plan outcome.revs state.hardware.rev) (range_with_len 0 (length machine.stated.cores))) (threads_at plan outcome.ends outcome refl)
    ∙ ap (λ (m : Machine). flat_map (λ t. cpu_text (plan.kind t) t outcome) (threads_from plan 0) ++ flat_map (line_of_core m plan outcome.revs state.hardware.rev) (range_with_len 0 (length m.stated.cores))) (sym is_machine)
    ∙ ap (λ (text : ℕ → List ℕ). flat_map (λ t. cpu_text (plan.kind t) t outcome) (threads_from plan 0) ++ flat_map text (range_with_len 0 (length setting.machine.stated.cores)))
    (fun_ext (λ core. core_is setting state puts offered plan outcome core is_plan))

-- ---- a search for a thread of a core

pub some_part : (machine : Machine) (plan : Plan) (core t : ℕ) → t < length machine.stated.threads → slice_index machine.stated.threads t ≡ core → is_absent (plan.kind t) ≡ false → takes_part machine plan core ≡ true
unfolding takes_part
some_part machine plan core t below same present =
    any_passes (is_part machine plan core) 0 (length machine.stated.threads) t (omega arith) (omega arith)
    (and_from _ _ (eq-eqb (slice_index machine.stated.threads t) core same) (ap not present))

pub no_part : (machine : Machine) (plan : Plan) (core : ℕ) → ((t : ℕ) → t < length machine.stated.threads → is_part machine plan core t ≡ false) → takes_part machine plan core ≡ false
unfolding takes_part
no_part machine plan core none =
    none_passes (is_part machine plan core) 0 (length machine.stated.threads) (λ t low high. none t (omega (arith, high)))
