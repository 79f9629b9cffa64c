-- The texts of the commands, each with its status, for the reads that the command made, in their order; the option is
-- the number of files that were read to their ends before one could not be read.
use Rattle.std.specs.Prelude.{◌≡◌, ◌⊎◌, ℕ, ◌≤◌, List, [], ◌∷◌, length, Option, Some, None, slice_get, slice_index_or}
use Rattle.uc_topology.specs.declared.fault.TopoCause.{TopoCause}
use Rattle.uc_topology.specs.Stated.{Machine}
use Rattle.status_rule.specs.declared.status.Status.{Status}
use Rattle.status_rule.specs.declared.status.Status.TheVariants.{Done, BadInput, ReadFault}
use Rattle.entry_model.specs.declared.facts.EntryFacts.{EntryFacts}
use Rattle.entry_model.specs.Reading.{Reading}
use Rattle.entry_model.specs.Entry.{Entry, entries_from, patch_entry}
use Rattle.read_model.specs.Accepts.{IsMachine, RefusesTopology}
use Rattle.read_model.specs.Reads.{Read, Outcome, AllRead, NotRead, Refused, Reads, count_of}
use Rattle.report_text.specs.Lines.{unread_line, fault_line, topology_line, no_entry_line}
use Rattle.report_text.specs.Listing.{AreDateTexts, files_text}
use Rattle.report_text.specs.Show.{show_text}
use Rattle.report_text.specs.Offers.{AreOffers, offers_text}

-- the entries of all files
abbrev pub entries_of_all : List Reading → List Entry
entries_of_all readings = entries_from 0 readings

-- update files that were not all read, or not all accepted
abbrev pub StopsAt : Outcome → List ℕ → Status → Type 0
StopsAt (NotRead name) text ReadFault = text ≡ unread_line name
StopsAt (Refused name offset cause) text BadInput = text ≡ fault_line name offset cause
StopsAt outcome text status = ⊥

-- `list`

pub record IsListing (names : List (List ℕ)) (readings : List Reading) (text : List ℕ) : Type 0 where
  pub date_text : ℕ → List ℕ
  pub are_dates : AreDateTexts date_text
  pub lines : text ≡ files_text date_text 0 0 names readings

abbrev pub Listed : List (List ℕ) → Outcome → List ℕ → Status → Type 0
Listed names (AllRead readings) text Done = IsListing names readings text
Listed names outcome text status = StopsAt outcome text status

pub record ListText (names : List (List ℕ)) (reads : List Read) (files : Option ℕ) (text : List ℕ)
    (status : Status) : Type 0 where
  pub outcome : Outcome
  pub come : Reads names reads outcome
  pub count : files ≡ count_of outcome reads
  pub listed : Listed names outcome text status

-- `show`

pub record IsShown (readings : List Reading) (number : ℕ) (text : List ℕ) : Type 0 where
  pub entry : Entry
  pub there : slice_get (entries_of_all readings) number ≡ Some entry
  pub date_text : ℕ → List ℕ
  pub are_dates : AreDateTexts date_text
  pub lines : text ≡ show_text date_text number entry

abbrev pub Shown : ℕ → Outcome → List ℕ → Status → Type 0
Shown number (AllRead readings) text Done = IsShown readings number text
Shown number (AllRead readings) text BadInput =
    (length (entries_of_all readings) ≤ number) × (text ≡ no_entry_line number)
Shown number outcome text status = StopsAt outcome text status

pub record ShowText (name : List ℕ) (number : ℕ) (reads : List Read) (files : Option ℕ) (text : List ℕ)
    (status : Status) : Type 0 where
  pub outcome : Outcome
  pub come : Reads (name ∷ []) reads outcome
  pub count : files ≡ count_of outcome reads
  pub shown : Shown number outcome text status

-- `select`

-- the facts of an entry by its number: of no meaning past the last
abbrev pub facts_at : List Entry → ℕ → EntryFacts
facts_at entries number =
    (slice_index_or entries number (patch_entry 0 0 [] [])).facts

pub record IsSelection (machine : Machine) (readings : List Reading) (text : List ℕ) : Type 0 where
  pub offers : List (Option ℕ)
  pub are_offers : AreOffers machine (entries_of_all readings) offers
  pub lines : text ≡ offers_text machine (facts_at (entries_of_all readings)) offers

abbrev pub Selected : Machine → Outcome → List ℕ → Status → Type 0
Selected machine (AllRead readings) text Done = IsSelection machine readings text
Selected machine outcome text status = StopsAt outcome text status

-- the topology is read and states a machine, before any update file is opened
pub record SelectsFor (topology : List ℕ) (names : List (List ℕ)) (reads : List Read) (files : Option ℕ)
    (text : List ℕ) (status : Status) : Type 0 where
  pub bytes : List ℕ
  pub behind : List Read
  pub first : reads ≡ record { name = topology; bytes = bytes } ∷ behind
  pub machine : Machine
  pub is_machine : IsMachine bytes machine
  pub outcome : Outcome
  pub come : Reads names behind outcome
  pub count : files ≡ count_of outcome reads
  pub selected : Selected machine outcome text status

-- a topology that is read and refused, and the line on it
pub record IsTopologyRefusal (topology : List ℕ) (reads : List Read) (text : List ℕ) : Type 0 where
  pub bytes : List ℕ
  pub only : reads ≡ record { name = topology; bytes = bytes } ∷ []
  pub line : ℕ
  pub cause : TopoCause
  pub refuses : RefusesTopology bytes line cause
  pub lines : text ≡ topology_line line cause

-- or it is not read, or refused
abbrev pub FailsAt : List ℕ → List Read → Option ℕ → List ℕ → Status → Type 0
FailsAt topology reads (Some k) text ReadFault =
    (reads ≡ []) × (k ≡ 0) × (text ≡ unread_line topology)
FailsAt topology reads None text BadInput = IsTopologyRefusal topology reads text
FailsAt topology reads files text status = ⊥

abbrev pub SelectText : List ℕ → List (List ℕ) → List Read → Option ℕ → List ℕ → Status → Type 0
SelectText topology names reads files text status =
    FailsAt topology reads files text status ⊎ SelectsFor topology names reads files text status
