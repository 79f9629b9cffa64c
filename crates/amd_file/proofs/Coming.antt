-- What stands of bytes stands of them with some more that are held.
use Rattle.std.proofs.Common.{◌≡◌, inl, inr, ℕ, ◌+◌, List, ◌++◌, length, ◌∙◌, ap, arith, append_assoc, length-append}
use Rattle.uc_bytes.proofs.Fronts.{word-append}
use Rattle.amd_format.specs.File.{FileContainer, joined}
use Rattle.amd_format.specs.Checks.{BeginsContainer}
use Rattle.amd_format.proofs.Settled.{settled_stays}
use Rattle.amd_file.specs.declared.part.AmdPart.{AmdPart}
use Rattle.amd_file.specs.declared.progress.Stage.{Stage}
use Rattle.amd_file.specs.declared.progress.Stage.TheVariants.{Head, Next, Rows, Tail, Header, Body, Failed}
use Rattle.amd_file.specs.Parsing.{Came, StandsAt}

-- the same rest, written otherwise
abbrev pub came_as : (bytes rest other : List ℕ) (fed start patches : ℕ) → rest ≡ other → Came bytes fed start patches rest → Came bytes fed start patches other
came_as bytes rest other fed start patches same came = record {
  containers = came.containers;
  split = came.split ∙ ap (λ (l : List ℕ). joined came.containers ++ l) same;
  each = came.each;
  few = came.few;
  all = came.all;
  place = came.place;
  counts = came.counts;
}

-- more bytes
abbrev pub came_more : (bytes rest more : List ℕ) (fed start patches : ℕ) → Came bytes fed start patches rest → Came (bytes ++ more) (fed + length more) start patches (rest ++ more)
came_more bytes rest more fed start patches came = record {
  containers = came.containers;
  split = ap (λ (l : List ℕ). l ++ more) came.split ∙ append_assoc (joined came.containers) rest more;
  each = came.each;
  few = came.few;
  all = omega (arith, came.all, length-append bytes more);
  place = came.place;
  counts = came.counts;
}

-- more bytes, of which some were held
abbrev came_on : (bytes front held more : List ℕ) (fed start patches : ℕ) → Came bytes fed start patches (front ++ held) → Came (bytes ++ more) (fed + length more) start patches (front ++ (held ++ more))
came_on bytes front held more fed start patches came =
    came_as (bytes ++ more) ((front ++ held) ++ more) (front ++ (held ++ more)) (fed + length more) start patches (append_assoc front held more) (came_more bytes (front ++ held) more fed start patches came)

-- a container that begins at bytes begins there whatever follows
pub begins_more : (cs : List FileContainer) (bytes more : List ℕ) → BeginsContainer cs bytes → BeginsContainer cs (bytes ++ more)
begins_more cs bytes more (inl none) = inl none
begins_more cs bytes more (inr (long, magic)) =
    inr (omega (arith, long, length-append bytes more), word-append bytes more 0 long ∙ magic)

pub stands_more : (stage : Stage) (bytes : List ℕ) (told : List AmdPart) (fed start patches : ℕ) (held more : List ℕ)
    → StandsAt stage bytes told fed start patches held → StandsAt stage (bytes ++ more) told (fed + length more) start patches (held ++ more)
stands_more Head bytes told fed start patches held more at = record {
  came = came_more bytes held more fed start patches at.came;
  begins = begins_more at.came.containers held more at.begins;
  parts = at.parts;
}
stands_more Next bytes told fed start patches held more at = record {
  came = came_more bytes held more fed start patches at.came;
  some = at.some;
  parts = at.parts;
}
stands_more (Rows count tail) bytes told fed start patches held more at = record {
  front = at.front;
  came = came_on bytes at.front held more fed start patches at.came;
  table = at.table;
  size = at.size;
  short = at.short;
  parts = at.parts;
}
stands_more (Tail left) bytes told fed start patches held more at = record {
  front = at.front;
  passed = at.passed;
  came = came_on bytes (at.front ++ at.passed) held more fed start patches at.came;
  table = at.table;
  size = at.size;
  short = at.short;
  parts = at.parts;
}
stands_more (Header size) bytes told fed start patches held more at = record {
  front = at.front;
  came = came_on bytes at.front held more fed start patches at.came;
  some = at.some;
  section = at.section;
  parts = at.parts;
}
stands_more (Body header left) bytes told fed start patches held more at = record {
  front = at.front;
  patch = at.patch;
  came = came_on bytes (at.front ++ at.patch) held more fed start patches at.came;
  some = at.some;
  section = at.section;
  is_header = at.is_header;
  size = at.size;
  parts = at.parts;
}
stands_more (Failed fault) bytes told fed start patches held more at = record {
  all = omega (arith, at.all, length-append bytes more);
  settled = settled_stays bytes more fault.offset fault.cause at.settled;
}
