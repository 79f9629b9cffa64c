-- The text of a topology, versions 1 and 2, line by line, and the first fault.
use Rattle.std.specs.Prelude.{ℕ, ◌+◌, Bool, ◌&&◌, not, nat_le, nat_lt, ◌==◌, List, [], ◌∷◌, ◌++◌, length, slice_index, codes, Option, None, Some, Result, Ok, Err, if◌then◌else◌}
use Rattle.std.specs.List.{list_all, range_with_len}
use Rattle.uc_text.specs.Lines.{counted_lines, words_of}
use Rattle.uc_bytes.specs.declared.causes.Vendor.{Vendor}
use Rattle.uc_bytes.specs.declared.causes.Vendor.TheVariants.{Intel, Amd}
use Rattle.uc_topology.specs.declared.fault.TopoCause.{TopoCause}
use Rattle.uc_topology.specs.declared.fault.TopoCause.TheVariants.{Head, Word, Number, Order, NoCore, TooMany, EmptyCore, Disagree}
use Rattle.uc_topology.specs.declared.fault.TopoFault.{TopoFault}
use Rattle.uc_topology.specs.declared.forms.Version.{Version}
use Rattle.uc_topology.specs.declared.forms.Version.TheVariants.{Cores, Packages}
use Rattle.uc_topology.specs.declared.tables.Core.{Core}
use Rattle.uc_topology.specs.declared.tables.GroupFacts.{GroupFacts}
use Rattle.uc_topology.specs.Forms.{have_form, numbers_of}
use Rattle.uc_topology.specs.Stated.{Stated, Machine, lead, group_count, group_facts}

abbrev pub line_has : List ℕ → List ℕ → Bool
line_has form line = have_form (words_of form) (words_of line)

-- ---- a core's line

abbrev pub core_form : Version → List ℕ
core_form Cores = codes "core C sig S flags F rev R"
core_form Packages = codes "core C package P sig S flags F rev R"

-- the group of a core's line: in version 1 each core is a group of its own, in version 2 the group is the package
abbrev pub stated_group : Version → List ℕ → ℕ
stated_group Cores numbers = slice_index numbers 0
stated_group Packages numbers = slice_index numbers 1

abbrev pub facts_from : List ℕ → ℕ → GroupFacts
facts_from numbers at = record { sig = slice_index numbers at; flags = slice_index numbers (at + 1); rev = slice_index numbers (at + 2) }

abbrev pub stated_facts : Version → List ℕ → GroupFacts
stated_facts Cores numbers = facts_from numbers 1
stated_facts Packages numbers = facts_from numbers 2

abbrev pub same_facts : GroupFacts → GroupFacts → Bool
same_facts a b = (a.sig == b.sig && a.flags == b.flags) && a.rev == b.rev

-- the core that a line states after others: its number is the next, its group the next one or one that stands, and
-- it agrees with its group
abbrev pub next_core : Stated → ℕ → Core → Result Stated TopoCause
next_core before number core =
    if nat_le 256 (length before.cores) then Err TooMany
    else if not (number == length before.cores) then Err Order
    else if nat_lt (group_count before.cores) core.group then Err Order
    else if nat_lt core.group (group_count before.cores) && not (same_facts core.facts (group_facts before.cores core.group)) then Err Disagree
    else Ok (record { cores = before.cores ++ core ∷ []; threads = before.threads })

-- ---- a thread's line

-- the thread that a line states after others: its number is the next, and its core stands
abbrev pub next_thread : Stated → ℕ → ℕ → Result Stated TopoCause
next_thread before number core =
    if nat_le 256 (length before.threads) then Err TooMany
    else if not (number == length before.threads) then Err Order
    else if nat_le (length before.cores) core then Err NoCore
    else Ok (record { cores = before.cores; threads = before.threads ++ core ∷ [] })

-- ---- lines

abbrev pub core_from : Version → Stated → Option (List ℕ) → Result Stated TopoCause
core_from version before None = Err Number
core_from version before (Some numbers) = next_core before (slice_index numbers 0) (record { group = stated_group version numbers; facts = stated_facts version numbers })

abbrev pub thread_from : Stated → Option (List ℕ) → Result Stated TopoCause
thread_from before None = Err Number
thread_from before (Some numbers) = next_thread before (slice_index numbers 0) (slice_index numbers 1)

-- what is stated after one more line
unfoldable pub after_line : Version → Stated → List ℕ → Result Stated TopoCause
after_line version before line =
    if line_has (core_form version) line then core_from version before (numbers_of (words_of (core_form version)) (words_of line))
    else if line_has (codes "cpu T core C") line then thread_from before (numbers_of (words_of (codes "cpu T core C")) (words_of line))
    else Err Word

abbrev pub at_line : {A : Type 0} → ℕ → Result A TopoCause → Result A TopoFault
at_line line (Ok x) = Ok x
at_line line (Err cause) = Err (record { line = line; cause = cause })

infixl 10 ◌>>=◌
abbrev pub ◌>>=◌ : {A B : Type 0} → Result A TopoFault → (A → Result B TopoFault) → Result B TopoFault
(Ok x) >>= next = next x
(Err fault) >>= next = Err fault

-- what is stated after more lines, or the first of them that is at fault
unfoldable pub after_lines : Version → Stated → List (ℕ × List ℕ) → Result Stated TopoFault
after_lines version before [] = Ok before
after_lines version before (line ∷ lines) = at_line line.0 (after_line version before line.1) >>= λ stated. after_lines version stated lines

abbrev pub version_of : List ℕ → Result Version TopoCause
version_of line =
    if line_has (codes "ucode-topology 1") line then Ok Cores
    else if line_has (codes "ucode-topology 2") line then Ok Packages
    else Err Head

abbrev pub vendor_of : List ℕ → Result Vendor TopoCause
vendor_of line =
    if line_has (codes "vendor intel") line then Ok Intel
    else if line_has (codes "vendor amd") line then Ok Amd
    else Err Word

-- there is a thread, and each core has one
abbrev pub is_full : Stated → Bool
is_full stated = nat_lt 0 (length stated.threads) && list_all (λ core. nat_lt (lead stated core) (length stated.threads)) (range_with_len 0 (length stated.cores))

abbrev pub full : Stated → Result Stated TopoFault
full stated = if is_full stated then Ok stated else Err (record { line = 0; cause = EmptyCore })

-- no core and no thread
abbrev pub nothing : Stated
nothing = record { cores = []; threads = [] }

abbrev pub read_body : Version → Vendor → List (ℕ × List ℕ) → Result Machine TopoFault
read_body version vendor lines =
    after_lines version nothing lines >>= λ stated. full stated >>= λ stated. Ok (record { vendor = vendor; stated = stated })

abbrev pub read_vendor : Version → List (ℕ × List ℕ) → Result Machine TopoFault
read_vendor version [] = Err (record { line = 0; cause = Word })
read_vendor version (line ∷ lines) = at_line line.0 (vendor_of line.1) >>= λ vendor. read_body version vendor lines

abbrev pub read_head : List (ℕ × List ℕ) → Result Machine TopoFault
read_head [] = Err (record { line = 0; cause = Head })
read_head (line ∷ lines) = at_line line.0 (version_of line.1) >>= λ version. read_vendor version lines

-- what a text states, or its first fault
unfoldable pub reading : List ℕ → Result Machine TopoFault
reading text = read_head (counted_lines text)
