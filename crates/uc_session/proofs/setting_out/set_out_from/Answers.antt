use Rattle.std.proofs.Common.{ℕ, List, Option, Err, ◌≡◌, refl, sym, ap, ◌∙◌, subst, is_some}
use Rattle.std.specs.List.{list_any}
use Rattle.session_parts.specs.Parts.{setting_of, state_of}
use Rattle.session_parts.specs.Boots.{puts_of}
use Rattle.session_parts.specs.Loads.{IsPut}
use Rattle.uc_session.proofs.Offered.{something, nothing}
use Rattle.uc_session.proofs.Stopping.{sets_out_from}
use Rattle.uc_session.proofs.setting_out.set_out_from.Goals as goal

pub returns-clause-answer : goal.returns-clause-answer
returns-clause-answer c =
    sets_out_from (setting_of c.put_load.new.self) (setting_of c.args.parts.now) c.args.force c.args.catalog.now
    (state_of c.args.parts.now) (state_of c.put_load.new.self) _ c.as_slice-3.result.now c.put_load.ensures.setting
    c.as_slice-3.ensures.value refl c.load_offers.ensures.offers
    (something c.load_offers.new.offers.items
    (ap (list_any is_some) (sym c.as_slice.ensures.value)
    ∙ sym c.something_offered.ensures
    ∙ c.if-not-something_offered.false))
    c.load_offers.ensures.within
    (subst (λ (offers : List (Option ℕ)). IsPut (setting_of c.args.parts.now) c.args.catalog.now.entries offers
    (state_of c.args.parts.now) (state_of c.put_load.new.self) c.put_load.new.places.items) c.as_slice-2.ensures.value
    c.in-Ok.ensures.put)
    c.requires.standing c.plan.ensures.plan c.plan.ensures.sound

pub returns-in-Err-clause-answer : goal.returns-in-Err-clause-answer
returns-in-Err-clause-answer c = (
  record {
    offers = c.load_offers.new.offers.items;
    are_offers = c.load_offers.ensures.offers;
    something = something c.load_offers.new.offers.items
        (ap (list_any is_some) (sym c.as_slice.ensures.value) ∙ sym c.something_offered.ensures ∙ c.if-not-something_offered.false);
    full = subst (λ (offers : List (Option ℕ)). puts_of (setting_of c.args.parts.now) (state_of c.args.parts.now) c.args.catalog.now.entries offers ≡ Err c.in-Err.full.needed)
        c.as_slice-2.ensures.value c.in-Err.ensures.full.0;
  },
  c.in-Err.ensures.full.1,
)

pub returns-then-not-something_offered-clause-answer : goal.returns-then-not-something_offered-clause-answer
returns-then-not-something_offered-clause-answer c = (
  record {
    offers = c.load_offers.new.offers.items;
    are_offers = c.load_offers.ensures.offers;
    nothing = nothing c.load_offers.new.offers.items
        (ap (list_any is_some) (sym c.as_slice.ensures.value) ∙ sym c.something_offered.ensures ∙ c.if-not-something_offered.true);
  },
  refl,
)
