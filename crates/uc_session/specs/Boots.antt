-- What a boot from the entries of a catalogue came to.
use Rattle.std.specs.Prelude.{◌≡◌, ℕ, List, [], Option, Err}
use Rattle.session_steps.specs.entry_model.Entry.{Entry}
use Rattle.session_steps.specs.report_text.Offers.{AreOffers}
use Rattle.session_steps.specs.session_text.declared.answers.CommandAnswer.{CommandAnswer}
use Rattle.session_steps.specs.session_text.declared.answers.CommandAnswer.TheVariants.{Done, Load}
use Rattle.session_steps.specs.session_text.declared.answers.LoadAnswer.TheVariants.{PoolFull}
use Rattle.session_steps.specs.State.{Setting, State}
use Rattle.session_parts.specs.Boots.{puts_of, IsBooted}
use Rattle.uc_session.specs.declared.acted.Acted.{Acted}

-- each group is offered its entry, and all threads came up
pub record Boots (setting : Setting) (entries : List Entry) (old new : State) (acted : Acted) : Type 0 where
  pub offers : List (Option ℕ)
  pub are_offers : AreOffers setting.machine entries offers
  pub booted : IsBooted setting entries offers old new acted.ups.items

-- or what is offered does not fit
pub record IsFull (setting : Setting) (entries : List Entry) (needed : ℕ) (old new : State)
    (acted : Acted) : Type 0 where
  pub offers : List (Option ℕ)
  pub are_offers : AreOffers setting.machine entries offers
  pub full : puts_of setting old entries offers ≡ Err needed
  pub same : new ≡ old
  pub none_up : acted.ups.items ≡ []

abbrev pub BootsTo : Setting → List Entry → State → State → Acted → CommandAnswer → Type 0
BootsTo setting entries old new acted Done = Boots setting entries old new acted
BootsTo setting entries old new acted (Load (PoolFull needed)) = IsFull setting entries needed old new acted
BootsTo setting entries old new acted answer = ⊥
