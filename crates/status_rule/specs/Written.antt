-- What a run wrote. `texts k text status` says that it may write this text and end with this status, where the reading
-- of a file fails after k files that were read to their end, or where none fails.
use Rattle.std.specs.Prelude.{◌≡◌, ◌⊎◌, ℕ, ◌≤◌, List, ◌++◌, Option, Some, None, IsSome, codes}
use Rattle.uc_io.specs.Faults.{Rose}
use Rattle.uc_io.specs.Writing.{Grew, GrewByFront}
use Rattle.status_rule.specs.declared.status.Status.{Status}
use Rattle.status_rule.specs.declared.status.Status.TheVariants.{ReadFault, WriteFault, NoMemory}

-- the line that a run ends with where memory ran out
abbrev pub memory_line : List ℕ
memory_line = codes "error memory\n"

abbrev pub IsFront : List ℕ → List ℕ → Type 0
IsFront front text = (rest : List ℕ) × (text ≡ front ++ rest)

-- the reading of a file fails exactly where the status is a read fault
abbrev pub GoesWith : Option ℕ → Status → Type 0
GoesWith (Some k) ReadFault = Unit {0}
GoesWith (Some k) status = ⊥
GoesWith None ReadFault = ⊥
GoesWith None status = Unit {0}

-- there is a text for a run in which no read fails
pub record HasText (texts : Option ℕ → List ℕ → Status → Type 0) : Type 0 where
  pub text : List ℕ
  pub status : Status
  pub is_text : texts None text status
  pub goes : GoesWith None status

-- a whole text with its status
pub record WroteText {D : Type 0} (texts : Option ℕ → List ℕ → Status → Type 0) (stands : D → List ℕ → Type 0) (old new : D) (status : Status) : Type 0 where
  pub files : Option ℕ
  pub text : List ℕ
  pub is_text : texts files text status
  pub goes : GoesWith files status
  pub grew : Grew stands old new text

-- the front of a text; one of a failed read only where the files' count rose
pub record StartsText (texts : Option ℕ → List ℕ → Status → Type 0) (rose : Type 0) (front : List ℕ) : Type 0 where
  pub files : Option ℕ
  pub text : List ℕ
  pub status : Status
  pub is_text : texts files text status
  pub goes : GoesWith files status
  pub by_fault : IsSome files → rose
  pub is_front : IsFront front text

-- the front of a text, or one and then a front of the line on memory
pub record WroteFront {D : Type 0} (texts : Option ℕ → List ℕ → Status → Type 0) (rose : Type 0) (stands : D → List ℕ → Type 0) (old new : D) : Type 0 where
  pub front : List ℕ
  pub line : List ℕ
  pub starts : StartsText texts rose front
  pub of_line : IsFront line memory_line
  pub grew : Grew stands old new (front ++ line)

-- the front of a text, and then the line on memory
pub record RanOutOfMemory {D : Type 0} (texts : Option ℕ → List ℕ → Status → Type 0) (rose : Type 0) (stands : D → List ℕ → Type 0) (old new : D) : Type 0 where
  pub front : List ℕ
  pub starts : StartsText texts rose front
  pub grew : Grew stands old new (front ++ memory_line)

-- what was written by a run that ended with a status
abbrev pub Written : {D : Type 0} → (Option ℕ → List ℕ → Status → Type 0) → Type 0 → (D → List ℕ → Type 0) → D → D → Status → Type 0
Written texts rose stands old new WriteFault = WroteFront texts rose stands old new
Written texts rose stands old new NoMemory = RanOutOfMemory texts rose stands old new
Written texts rose stands old new status = WroteText texts stands old new status

-- The last lines of a run were written, the count of faults stands still, and it ended with the status meant for it; or
-- they were not all written, and the count rose.
pub record Ends {D : Type 0} (stands : D → List ℕ → Type 0) (faults : D → ℕ) (old new : D) (text : List ℕ) (meant status : Status) : Type 0 where
  pub later : faults old ≤ faults new
  pub outcome : ((status ≡ meant) × Grew stands old new text × (faults new ≡ faults old)) ⊎ ((status ≡ WriteFault) × GrewByFront stands old new text × Rose (faults old) (faults new))
