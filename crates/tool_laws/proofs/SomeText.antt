-- Whatever the words and the files are, there is a text for a run in which no read fails.
use Rattle.std.proofs.Common.{◌≡◌, ◌⊎◌, inl, inr, ℕ, ◌≤◌, List, [], ◌∷◌, length, map, Option, Some, None, refl, sym, arith}
use Rattle.std.specs.Prelude.{false, slice_get}
use Rattle.std.specs.List.{range_with_len}
use Rattle.std.proofs.lemmas.Bool.{cases_lt}
use Rattle.std.proofs.lemmas.Option.{none-some, slice_get-get_or}
use Rattle.std.proofs.lemmas.List.FromFn.{length-map-range_with_len, get_or-map-range_with_len}
use Rattle.intel_format.proofs.Decided.{decided_day}
use Rattle.uc_topology.specs.declared.fault.TopoCause.{TopoCause}
use Rattle.uc_topology.specs.declared.fault.TopoCause.TheVariants as topo
use Rattle.uc_topology.specs.Stated.{Machine, group_count}
use Rattle.uc_topology.proofs.Laws.{one_each}
use Rattle.tool_text.specs.entry_model.Reading.{Reading}
use Rattle.tool_text.specs.entry_model.Entry.{Entry, patch_entry}
use Rattle.entry_laws.proofs.Offers.{some_offer}
use Rattle.read_model.specs.declared.TheConstants.{TOPOLOGY_LIMIT}
use Rattle.read_model.specs.Accepts.{IsMachine, RefusesTopology}
use Rattle.read_model.specs.Reads.{Read, AreHeld, Outcome, AllRead, NotRead, Refused, Reads, count_of}
use Rattle.read_model.proofs.Outcomes.{some_outcome, held_nil, held_one, held_cons}
use Rattle.tool_text.specs.report_text.Lines.{usage_line, fault_line, topology_line, no_entry_line, day_text, IsDateText}
use Rattle.tool_text.specs.report_text.Listing.{AreDateTexts, files_text}
use Rattle.tool_text.specs.report_text.Show.{show_text}
use Rattle.tool_text.specs.report_text.Offers.{facts_of_group, AreOffers, offers_text}
use Rattle.status_rule.specs.Written.{HasText}
use Rattle.status_rule.specs.declared.status.Status.{Status}
use Rattle.status_rule.specs.declared.status.Status.TheVariants.{Done, Usage, BadInput}
use Rattle.tool_text.specs.Words.{Asked, Faulty, ListOf, ShowOf, SelectOf, PlayOf, GenOf, asked}
use Rattle.tool_text.specs.Commands.{entries_of_all, facts_at, ListText, ShowText, SelectText}
use Rattle.tool_text.specs.Plays.{PlayText, GenText}
use Rattle.tool_text.specs.Tool.{AskedText, ToolText, FromReads}

-- each date has a text
some_date : (date : ℕ) → (text : List ℕ) × IsDateText date text
some_date date = elim (decided_day date) [
  | inl names ↦ (day_text date, inl (names, refl))
  | inr none ↦ (_, inr (none, refl))
]

pub date_text_of : ℕ → List ℕ
date_text_of date = (some_date date).0

pub are_date_texts : AreDateTexts date_text_of
unfolding date_text_of some_date
are_date_texts = λ date. (some_date date).1

-- `list`, as reads of its names come to an outcome
module _ (names : List (List ℕ)) (holds : List ℕ → List ℕ) where
  abbrev ListTexts : Option ℕ → List ℕ → Status → Type 0
  ListTexts = FromReads (Unit {0}) holds (ListText names)

  listing_of : (outcome : Outcome) (reads : List Read) → AreHeld holds reads → Reads names reads outcome → count_of outcome reads ≡ None → HasText ListTexts
  listing_of (AllRead readings) reads held come none = record {
    text = files_text date_text_of 0 0 names readings;
    status = Done;
    is_text = record {
      reads = reads;
      held = λ told. held;
      is_text = record {
        outcome = AllRead readings;
        come = come;
        count = refl;
        listed = record { date_text = date_text_of; are_dates = are_date_texts; lines = refl };
      };
    };
    goes = tt;
  }
  listing_of (NotRead name) reads held come none = absurd (none-some (length reads) (sym none))
  listing_of (Refused name offset cause) reads held come none = record {
    text = fault_line name offset cause;
    status = BadInput;
    is_text = record {
      reads = reads;
      held = λ told. held;
      is_text = record { outcome = Refused name offset cause; come = come; count = refl; listed = refl };
    };
    goes = tt;
  }

pub list_text : (names : List (List ℕ)) (holds : List ℕ → List ℕ) → HasText (FromReads (Unit {0}) holds (ListText names))
list_text names holds =
    let all = some_outcome names holds in
    listing_of names holds all.outcome all.reads all.held all.come all.all_read

-- an entry of a number, or none
entry_at : (entries : List Entry) (number : ℕ) → ((entry : Entry) × (slice_get entries number ≡ Some entry)) ⊎ (length entries ≤ number)
entry_at entries number = elim (cases_lt number (length entries)) [
  | inl inside ↦ inl (_, slice_get-get_or entries number (patch_entry 0 0 [] []) inside)
  | inr past ↦ inr past
]

-- `show`
module _ (name : List ℕ) (number : ℕ) (holds : List ℕ → List ℕ) where
  abbrev ShowTexts : Option ℕ → List ℕ → Status → Type 0
  ShowTexts = FromReads (Unit {0}) holds (ShowText name number)

  show_of_all : (readings : List Reading) (reads : List Read) → AreHeld holds reads → Reads (name ∷ []) reads (AllRead readings) → HasText ShowTexts
  show_of_all readings reads held come = elim (entry_at (entries_of_all readings) number) [
    | inl entry ↦
        record {
          text = show_text date_text_of number entry.0;
          status = Done;
          is_text = record {
            reads = reads;
            held = λ told. held;
            is_text = record {
              outcome = AllRead readings;
              come = come;
              count = refl;
              shown = record { entry = entry.0; there = entry.1; date_text = date_text_of; are_dates = are_date_texts; lines = refl };
            };
          };
          goes = tt;
        }
    | inr past ↦
        record {
          text = no_entry_line number;
          status = BadInput;
          is_text = record {
            reads = reads;
            held = λ told. held;
            is_text = record { outcome = AllRead readings; come = come; count = refl; shown = (past, refl) };
          };
          goes = tt;
        }
  ]

  showing_of : (outcome : Outcome) (reads : List Read) → AreHeld holds reads → Reads (name ∷ []) reads outcome → count_of outcome reads ≡ None → HasText ShowTexts
  showing_of (AllRead readings) reads held come none = show_of_all readings reads held come
  showing_of (NotRead which) reads held come none = absurd (none-some (length reads) (sym none))
  showing_of (Refused which offset cause) reads held come none = record {
    text = fault_line which offset cause;
    status = BadInput;
    is_text = record {
      reads = reads;
      held = λ told. held;
      is_text = record { outcome = Refused which offset cause; come = come; count = refl; shown = refl };
    };
    goes = tt;
  }

pub show_text_of : (name : List ℕ) (number : ℕ) (holds : List ℕ → List ℕ) → HasText (FromReads (Unit {0}) holds (ShowText name number))
show_text_of name number holds =
    let all = some_outcome (name ∷ []) holds in
    showing_of name number holds all.outcome all.reads all.held all.come all.all_read

-- the offers of all groups
module _ (machine : Machine) (entries : List Entry) where
  offer_of : ℕ → Option ℕ
  offer_of group = (some_offer entries (facts_of_group machine group) false).0

  offers_of : List (Option ℕ)
  offers_of = map offer_of (range_with_len 0 (group_count machine.stated.cores))

  are_offers : AreOffers machine entries offers_of
  unfolding offers_of offer_of
  are_offers = record {
    count = length-map-range_with_len offer_of 0 (group_count machine.stated.cores);
    each = λ group below.
        rw (get_or-map-range_with_len offer_of 0 (group_count machine.stated.cores) group group None below (omega arith)) (some_offer entries (facts_of_group machine group) false).1;
  }

-- `select`
module _ (topology : List ℕ) (names : List (List ℕ)) (holds : List ℕ → List ℕ) where
  abbrev SelectTexts : Option ℕ → List ℕ → Status → Type 0
  SelectTexts = FromReads (Unit {0}) holds (SelectText topology names)

  first_read : Read
  first_read = record { name = topology; bytes = holds topology }

  first_is_held : (first_read).bytes ≡ holds (first_read).name
  unfolding first_read
  first_is_held = refl

  selection_of : (machine : Machine) → IsMachine (holds topology) machine → (outcome : Outcome) (reads : List Read) → AreHeld holds reads → Reads names reads outcome → count_of outcome reads ≡ None → HasText SelectTexts
  unfolding first_read
  selection_of machine is (AllRead readings) reads held come none =
      let entries = entries_of_all readings in
      record {
        text = offers_text machine (facts_at entries) (offers_of machine entries);
        status = Done;
        is_text = record {
          reads = first_read ∷ reads;
          held = λ told. held_cons holds first_read reads first_is_held held;
          is_text = inr
              (record {
                bytes = holds topology;
                behind = reads;
                first = refl;
                machine = machine;
                is_machine = is;
                outcome = AllRead readings;
                come = come;
                count = refl;
                selected = record { offers = offers_of machine entries; are_offers = are_offers machine entries; lines = refl };
              });
        };
        goes = tt;
      }
  selection_of machine is (NotRead name) reads held come none = absurd (none-some (length reads) (sym none))
  selection_of machine is (Refused name offset cause) reads held come none = record {
    text = fault_line name offset cause;
    status = BadInput;
    is_text = record {
      reads = first_read ∷ reads;
      held = λ told. held_cons holds first_read reads first_is_held held;
      is_text = inr
          (record {
            bytes = holds topology;
            behind = reads;
            first = refl;
            machine = machine;
            is_machine = is;
            outcome = Refused name offset cause;
            come = come;
            count = refl;
            selected = refl;
          });
    };
    goes = tt;
  }

  -- a topology that is refused
  topology_refused : (line : ℕ) (cause : TopoCause) → RefusesTopology (holds topology) line cause → HasText SelectTexts
  unfolding first_read
  topology_refused line cause refuses = record {
    text = topology_line line cause;
    status = BadInput;
    is_text = record {
      reads = first_read ∷ [];
      held = λ told. held_one holds first_read first_is_held;
      is_text = inl (record { bytes = holds topology; only = refl; line = line; cause = cause; refuses = refuses; lines = refl });
    };
    goes = tt;
  }

pub select_text : (topology : List ℕ) (names : List (List ℕ)) (holds : List ℕ → List ℕ) → HasText (FromReads (Unit {0}) holds (SelectText topology names))
select_text topology names holds = elim (cases_lt TOPOLOGY_LIMIT (length (holds topology))) [
  | inl long ↦ topology_refused topology names holds 0 topo.TooLong (inl (long, refl, refl))
  | inr within ↦ elim (one_each (holds topology)) [
    | inl states ↦
        let all = some_outcome names holds in
        selection_of topology names holds states.0 (record { within = within; states = states.1 }) all.outcome all.reads all.held all.come all.all_read
    | inr fault ↦ topology_refused topology names holds fault.0.line fault.0.cause (inr (within, fault.1))
  ]
]

-- a session that is played has one
abbrev PlayHasText : Type 0
PlayHasText = (topology script : List ℕ) (holds : List ℕ → List ℕ) → HasText (FromReads (Unit {0}) holds (PlayText topology script))

-- and one that is generated
abbrev GenHasText : Type 0
GenHasText = (number : ℕ) (holds : List ℕ → List ℕ) → HasText (FromReads (Unit {0}) holds (GenText number))

asked_text : PlayHasText → GenHasText → (line : Asked) (holds : List ℕ → List ℕ) → HasText (FromReads (Unit {0}) holds (AskedText line))
asked_text plays gens (Faulty i) holds = record {
  text = usage_line i;
  status = Usage i;
  is_text = record { reads = []; held = λ told. held_nil holds; is_text = (refl, refl, refl) };
  goes = tt;
}
asked_text plays gens (ListOf names) holds = list_text names holds
asked_text plays gens (ShowOf name number) holds = show_text_of name number holds
asked_text plays gens (SelectOf topology names) holds = select_text topology names holds
asked_text plays gens (PlayOf topology script) holds = plays topology script holds
asked_text plays gens (GenOf number) holds = gens number holds

pub tool_text : PlayHasText → GenHasText → (words : List (List ℕ)) (holds : List ℕ → List ℕ) → HasText (FromReads (Unit {0}) holds (ToolText words))
tool_text plays gens words holds = asked_text plays gens (asked words) holds

-- a text of reads that gave what is held is one whether the files tell or not
pub whether_told : {tells : Type 0} (holds : List ℕ → List ℕ) (texts : List Read → Option ℕ → List ℕ → Status → Type 0) → HasText (FromReads (Unit {0}) holds texts) → HasText (FromReads tells holds texts)
whether_told holds texts has = record {
  text = has.text;
  status = has.status;
  is_text = record { reads = has.is_text.reads; held = λ told. has.is_text.held tt; is_text = has.is_text.is_text };
  goes = has.goes;
}
