-- Histories, from their first entry on.
use Rattle.std.proofs.Common.{◌≡◌, ℕ, List, [], ◌∷◌, ◌++◌, refl, sym, subst}
use Rattle.session_steps.specs.State.{Setting, State}
use Rattle.desk_steps.specs.declared.calls.DeskEntry.{DeskEntry}
use Rattle.desk_steps.specs.Run.{EntryLeads, EntriesLead, DeskRun}
use Rattle.desk_laws.specs.Laws.{Begins, GoesOn}

-- entries that lead from a state to another, and one that leads on
led_on : (setting : Setting) (file : List ℕ) (old : State) (entries : List DeskEntry) (entry : DeskEntry)
    (state next : State) → EntriesLead setting file old entries state → EntryLeads setting file state entry next →
    EntriesLead setting file old (entries ++ entry ∷ []) next
led_on setting file old [] entry state next led leads =
    (next, subst (λ (s : State). EntryLeads setting file s entry next) led leads, refl)
led_on setting file old (first ∷ entries) entry state next led leads =
    (led.0, led.1, led_on setting file led.0 entries entry state next led.2 leads)

pub begins : Begins
begins setting file boot step = record { boot = boot; booted = step; led = refl }

pub goes_on : GoesOn
goes_on setting file entries entry state next run leads = record {
  boot = run.boot;
  booted = run.booted;
  led = led_on setting file run.boot.after entries entry state next run.led leads;
}
