-- What stands all through a session, and whatever a call comes to that runs one of its commands.
use Rattle.std.proofs.Common.{◌≡◌, ◌⊎◌, ℕ, Bool, true, false, List, [], ◌∷◌, ◌++◌, length, sym, subst, inl, inr}
use Rattle.std.specs.List.{All}
use Rattle.std.proofs.lemmas.Bool.{cases_order}
use Rattle.std.proofs.lemmas.List.Elements.{All-nil, All-cons, All-head, All-tail}
use Rattle.uc_topology.specs.Stated.{IsPartition}
use Rattle.script_text.specs.declared.command.Command.{Command}
use Rattle.session_text.specs.declared.answers.Played.{Played}
use Rattle.session_text.specs.declared.answers.Played.TheVariants as played
use Rattle.session_steps.specs.State.{Setting, State, opening_state}
use Rattle.session_steps.specs.Did.{Did}
use Rattle.session_text.specs.Headings.{heading}
use Rattle.session_steps.specs.Session.{StepsFrom, ends_session, left_to_run}
use Rattle.session_steps.specs.Calls.{Outside, Situation}
use Rattle.session_steps.specs.Played.{IsPlayed, LeftBy}
use Rattle.session_laws.specs.Standing.{Standing, InRange, SessionsStand}
use Rattle.session_laws.proofs.Stands.{opening_stands, steps_stand}

-- ---- sessions

left_in_range : (setting : Setting) (ends : Bool) (commands : List Command) →
    All (λ one. InRange setting one) commands →
    All (λ one. InRange setting one) (left_to_run ends commands)
left_in_range setting true commands within = All-nil (λ one. InRange setting one)
left_in_range setting false commands within = within

all_stand : (lists : Bool) (setting : Setting) → IsPartition setting.machine.stated → (dids : List Did) (state : State)
    (commands : List Command) → Standing setting state → All (λ one. InRange setting one) commands →
    StepsFrom lists setting state commands dids → All (λ did. Standing setting did.after) dids
all_stand lists setting partition [] state commands stands within steps =
    All-nil (λ (did : Did). Standing setting did.after)
all_stand lists setting partition (did ∷ dids) state [] stands within steps = absurd steps
all_stand lists setting partition (did ∷ dids) state (one ∷ commands) stands within steps =
    let here : Standing setting did.after =
    steps_stand lists setting state one did partition stands
    (All-head (λ one. InRange setting one) one commands within) steps.0 in
    let rest : List Command = left_to_run (ends_session did.answer) commands in
    All-cons (λ (did : Did). Standing setting did.after) did dids here
    (all_stand lists setting partition dids did.after rest here
    (left_in_range setting (ends_session did.answer) commands
    (All-tail (λ one. InRange setting one) one commands within))
    steps.1)

pub sessions_stand : SessionsStand
sessions_stand lists setting commands dids partition within steps =
    all_stand lists setting partition dids (opening_state setting) commands (opening_stands setting) within steps

-- ---- one call

-- a fault leaves the old state or the new one
pub left_old_or_new : (front shown : List ℕ) (old new after : State) → LeftBy front shown old new after →
    (new ≡ old) ⊎ (new ≡ after)
left_old_or_new front shown old new after left = elim (cases_order (length front) (length shown)) [
  | inl same ↦ left.just same
  | inr (inl less) ↦ inl (left.less less)
  | inr (inr more) ↦ inr (left.more more)
]

-- whatever the call comes to, the state that it leaves stands
pub played_stands : {D : Type 0} (outside : Outside D) (setting : Setting) (k : ℕ) (one : Command)
    (before now : Situation D) (come : Played) →
    IsPartition setting.machine.stated → Standing setting before.state → InRange setting one →
    IsPlayed outside setting k one before now come → Standing setting now.state
played_stands outside setting k one before now (played.Answered answer) partition stood within is =
    subst (Standing setting) (sym is.is_after)
    (steps_stand outside.lists setting before.state one is.did partition stood within is.may.step)
played_stands outside setting k one before now played.WriteFault partition stood within is =
    let did : Did = is.starts.did in
    let next : Standing setting did.after =
    steps_stand outside.lists setting before.state one did partition stood within is.starts.may.step in
    elim (left_old_or_new is.starts.front (heading k one ++ did.shown) before.state now.state did.after is.left) [
      | inl same ↦ subst (Standing setting) (sym same) stood
      | inr after ↦ subst (Standing setting) (sym after) next
    ]
played_stands outside setting k one before now played.NoMemory partition stood within is =
    subst (Standing setting) (sym is.same) stood
