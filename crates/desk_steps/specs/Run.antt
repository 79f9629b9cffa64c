-- What the calls of a desk do, one after another, as if one thread had made them.
use Rattle.std.specs.Prelude.{◌≡◌, ℕ, ◌+◌, ◌*◌, ◌==◌, true, false, List, [], ◌∷◌, map, filter, codes}
use Rattle.std.specs.List.{range_with_len}
use Rattle.read_model.specs.Reads.{AreHeld}
use Rattle.rendezvous_steps.specs.declared.ends.Beat.TheVariants.{Rounds}
use Rattle.script_text.specs.declared.command.Command.{Command}
use Rattle.script_text.specs.declared.command.Command.TheVariants as command
use Rattle.session_steps.specs.State.{Setting, State, machine_of, opening_state}
use Rattle.session_steps.specs.Did.{Did}
use Rattle.session_steps.specs.Step.{SessionStep}
use Rattle.session_steps.specs.Played.{is_read_fault}
use Rattle.desk_steps.specs.declared.calls.DeskCall.{DeskCall}
use Rattle.desk_steps.specs.declared.calls.DeskCall.TheVariants.{Reload, Online, Offline, Version}
use Rattle.desk_steps.specs.declared.calls.DeskReply.{DeskReply}
use Rattle.desk_steps.specs.declared.calls.DeskReply.TheVariants.{Command as Replied, Revision}
use Rattle.desk_steps.specs.declared.calls.DeskEntry.{DeskEntry}

-- A reload is a load of the desk's file without force, in rounds enough to end.

abbrev pub enough_rounds : ℕ → ℕ
enough_rounds threads = 20 * threads + 8

abbrev pub reload_in : ℕ → Command
reload_in threads = command.Load false (codes "update" ∷ []) (Rounds (enough_rounds threads) ∷ [])

abbrev pub reload_of : Setting → Command
reload_of setting = reload_in (machine_of setting).threads

-- A command of a session that reads the desk's file, whatever name it reads, and replies what the command answers. The
-- file is there, so no read of it fails.
pub record Commands (setting : Setting) (file : List ℕ) (old : State) (one : Command) (reply : DeskReply) (new : State)
    : Type 0 where
  pub did : Did
  pub step : SessionStep true setting old one did
  pub held : AreHeld (λ name. file) did.reads
  pub all_read : is_read_fault did.answer ≡ false
  pub replies : reply ≡ Replied did.answer
  pub leaves : new ≡ did.after

-- a call made in one state is replied so, and leads to another
abbrev pub CallLeads : Setting → List ℕ → State → DeskCall → DeskReply → State → Type 0
CallLeads setting file old Reload reply new = Commands setting file old (reload_of setting) reply new
CallLeads setting file old (Online t) reply new = Commands setting file old (command.Online t) reply new
CallLeads setting file old (Offline t) reply new = Commands setting file old (command.Offline t) reply new
CallLeads setting file old (Version g) reply new = (reply ≡ Revision (old.hardware.rev g)) × (new ≡ old)

-- the revisions of all groups
abbrev pub revisions : Setting → State → List ℕ
revisions setting state = map state.hardware.rev (range_with_len 0 (machine_of setting).groups)

pub record EntryLeads (setting : Setting) (file : List ℕ) (old : State) (entry : DeskEntry) (new : State) : Type 0 where
  pub call_leads : CallLeads setting file old entry.call entry.reply new
  pub revs : entry.revs.items ≡ revisions setting new

-- entries one after another lead from a state to another
abbrev pub EntriesLead : Setting → List ℕ → State → List DeskEntry → State → Type 0
EntriesLead setting file old [] new = new ≡ old
EntriesLead setting file old (entry ∷ entries) new =
    (next : State) × EntryLeads setting file old entry next × EntriesLead setting file next entries new

-- a history: the machine was booted without files, and from then on the entries lead to a state
pub record DeskRun (setting : Setting) (file : List ℕ) (entries : List DeskEntry) (state : State) : Type 0 where
  pub boot : Did
  pub booted : SessionStep true setting (opening_state setting) (command.Boot []) boot
  pub led : EntriesLead setting file boot.after entries state

-- the entries and the calls of one administrator, in their order
abbrev pub entries_of : ℕ → List DeskEntry → List DeskEntry
entries_of by entries = filter (λ entry. entry.by == by) entries

abbrev pub calls_of : ℕ → List DeskEntry → List DeskCall
calls_of by entries = map (λ entry. entry.call) (entries_of by entries)
