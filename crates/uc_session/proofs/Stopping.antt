-- A load that does not come to its rendezvous, as a step of a session.
use Rattle.std.proofs.Common.{◌≡◌, ℕ, ◌<◌, Bool, true, List, [], length, All, Option, IfSome, Some, refl, sym, subst}
use Rattle.std.proofs.lemmas.List.Elements.{All-nil}
use Rattle.uc_io.specs.Faults.{Rose}
use Rattle.uc_bytes.specs.declared.causes.FileFault.{FileFault}
use Rattle.session_steps.specs.read_model.Reads.{Read}
use Rattle.update_reads.specs.Reading.{IsOfFiles, UnreadAt, RefusedAt}
use Rattle.update_reads.proofs.Files.{all_entries}
use Rattle.uc_catalog.specs.Contents.{Contents}
use Rattle.session_steps.specs.session_text.declared.answers.LoadAnswer.TheVariants as load
use Rattle.session_steps.specs.State.{Setting, State, first_missing}
use Rattle.session_steps.specs.Offers.{AreLoadOffers, SomethingOffered, plan_of as load_plan}
use Rattle.session_steps.specs.Step.{AllPresent, ReadAll}
use Rattle.session_steps.specs.Calls.{HeldWhere}
use Rattle.session_steps.specs.rendezvous_steps.Padded.{Padded}
use Rattle.patch_pool.specs.declared.pool.PatchId.{PatchId}
use Rattle.session_steps.specs.entry_model.Entry.{Entry}
use Rattle.session_laws.specs.Standing.{Standing}
use Rattle.ctl_words.specs.declared.plans.Plan.{Plan as Tables}
use Rattle.ctl_words.specs.Plans.{plan_of, IsSound}
use Rattle.session_parts.specs.Loads.{IsPut}
use Rattle.uc_session.specs.declared.setting_out.Stop.{Stop}
use Rattle.uc_session.specs.declared.setting_out.Stop.TheVariants.{Answer, NoMemory}
use Rattle.uc_session.specs.Acts.{Stage}
use Rattle.uc_session.specs.Loads.{Ready, SetsOut, SetsOutFrom, StopsFrom, Refuses, Stops}

module _ (tells : Type 0) (holds : List ℕ → List ℕ) (setting : Setting) (force : Bool) (names : List (List ℕ)) (before now : Stage) where
  pub busy : (t : ℕ) → first_missing setting before.state ≡ Some t → now.files ≡ before.files →
      now.state ≡ before.state → Refuses (HeldWhere tells holds) setting force names before now (load.Busy t)
  busy t missing still same = record {
    reads = [];
    is_held = λ told. All-nil (λ (read : Read). read.bytes ≡ holds read.name);
    step = λ lists beats. (missing, refl);
    cause = still;
    same = same;
  }

  module _ (present : AllPresent setting before.state) where
    pub unread : (file : ℕ) → Rose before.files now.files → UnreadAt tells names holds file →
        now.state ≡ before.state → Refuses (HeldWhere tells holds) setting force names before now (load.ReadFault file)
    unread file rose is same = record {
      reads = is.reads;
      is_held = is.held;
      step = λ lists beats. (present, record { name = is.name; come = is.come; place = is.place; did_only = refl });
      cause = rose;
      same = same;
    }

    pub bad : (file : ℕ) (fault : FileFault) → now.files ≡ before.files → RefusedAt tells names holds file fault →
        now.state ≡ before.state → Refuses (HeldWhere tells holds) setting force names before now (load.BadFile file fault)
    bad file fault still is same = record {
      reads = is.reads;
      is_held = is.held;
      step = λ lists beats. (present, record { name = is.name; come = is.come; place = is.place; did_only = refl });
      cause = still;
      same = same;
    }

    module _ (contents : Contents) (still : now.files ≡ before.files) (read : IsOfFiles tells names holds contents) (keep : contents.keeps ≡ true) where
      all_read : ReadAll names read.reads contents.entries
      all_read = record { readings = read.readings; come = (read.in_order, read.accepted); all = all_entries tells names holds contents read keep }

      -- nothing is offered, or it does not fit
      pub stops : (stop : Stop) → StopsFrom setting force contents before.state stop → now.state ≡ before.state →
          Stops (HeldWhere tells holds) setting force names before now stop
      stops (Answer load.NotFound) is same = record {
        reads = read.reads;
        is_held = read.held;
        step = λ lists beats. (
          present,
          record {
            entries = contents.entries;
            read = all_read;
            offers = is.offers;
            are_offers = is.are_offers;
            nothing = is.nothing;
            did_only = refl;
          },
        );
        cause = still;
        same = same;
      }
      stops (Answer (load.PoolFull needed)) is same = record {
        reads = read.reads;
        is_held = read.held;
        step = λ lists beats. (
          present,
          record {
            entries = contents.entries;
            read = all_read;
            offers = is.offers;
            are_offers = is.are_offers;
            something = is.something;
            full = is.full;
            did_only = refl;
          },
        );
        cause = still;
        same = same;
      }
      stops (Answer load.Done) is same = absurd is
      stops (Answer (load.Busy t)) is same = absurd is
      stops (Answer (load.ReadFault file)) is same = absurd is
      stops (Answer (load.BadFile file fault)) is same = absurd is
      stops (Answer (load.Panicked t)) is same = absurd is
      stops (Answer (load.Unfinished t)) is same = absurd is
      stops (Answer (load.OfflineSilent kicks)) is same = absurd is
      stops (Answer (load.TimedOut t)) is same = absurd is
      stops (Answer (load.Failed t)) is same = absurd is
      stops (Answer (load.Incomplete t)) is same = absurd is
      stops NoMemory is same = absurd is

      -- something is offered, and it was put
      pub sets_out : (left : Setting) → left ≡ setting → Standing setting before.state →
          ((plan : Tables) → IsSound plan → Padded (plan_of plan)) → (ready : Ready) →
          SetsOutFrom left force contents before.state now.state ready →
          SetsOut (HeldWhere tells holds) left force names before now ready
      sets_out left same standing pads ready is =
          let there : AllPresent left before.state = subst (λ (s : Setting). AllPresent s before.state) (sym same) present in
          let sound : IsSound ready.plan = is.sound names read.reads there all_read in
          record {
            reads = read.reads;
            is_held = read.held;
            still = still;
            standing = subst (λ (s : Setting). Standing s before.state) (sym same) standing;
            present = there;
            read = subst (λ (all : Contents). ReadAll names read.reads all.entries) (sym is.catalog) all_read;
            from =
                subst (λ (all : Contents). SetsOutFrom left force all before.state now.state ready) (sym is.catalog) is;
            sound = sound;
            padded = pads ready.plan sound;
          }

-- what was put, of the setting that the calls before the plan left, and of the places as they were lent
pub sets_out_from :
    (setting first : Setting) (force : Bool) (contents : Contents) (old new : State) (ready : Ready)
    (places : List (Option PatchId)) → setting ≡ first → places ≡ ready.places → ready.catalog ≡ contents →
    AreLoadOffers first old force contents.entries ready.offers → SomethingOffered ready.offers →
    All (λ offer. IfSome offer (λ number. number < length contents.entries)) ready.offers →
    IsPut first contents.entries ready.offers old new ready.places → Standing first old →
    ((entries : List Entry) (offers : List (Option ℕ)) (before : State)
    (put : IsPut setting entries offers before new places) → plan_of ready.plan ≡ load_plan setting before put.puts offers) →
    ((force : Bool) (names : List (List ℕ)) (reads : List Read) (entries : List Entry) (offers : List (Option ℕ))
    (before : State) → IsPut setting entries offers before new places → Standing setting before →
    AllPresent setting before → ReadAll names reads entries → AreLoadOffers setting before force entries offers →
    SomethingOffered offers → IsSound ready.plan) →
    SetsOutFrom setting force contents old new ready
sets_out_from setting first force contents old new ready places same lent catalog are_offers something within put
    standing plan_is sound_is =
    let are : AreLoadOffers setting old force contents.entries ready.offers =
    subst (λ (s : Setting). AreLoadOffers s old force contents.entries ready.offers) (sym same) are_offers in
    let here : IsPut setting contents.entries ready.offers old new ready.places =
    subst (λ (s : Setting). IsPut s contents.entries ready.offers old new ready.places) (sym same) put in
    record {
      catalog = catalog;
      are_offers = are;
      something = something;
      within = within;
      put = here;
      plan_is =
          subst (λ (all : List (Option PatchId)). (put : IsPut setting contents.entries ready.offers old new all) →
          plan_of ready.plan ≡ load_plan setting old put.puts ready.offers) lent
          (plan_is contents.entries ready.offers old) here;
      sound =
          λ names reads present read.
          sound_is force names reads contents.entries ready.offers old
          (subst (λ (all : List (Option PatchId)). IsPut setting contents.entries ready.offers old new all) (sym lent) here)
          (subst (λ (s : Setting). Standing s old) (sym same) standing) present read are something;
    }
