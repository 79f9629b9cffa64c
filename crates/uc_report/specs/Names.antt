-- The words for causes.
use Rattle.std.specs.Prelude.{ℕ, List, codes}
use Rattle.uc_bytes.specs.declared.causes.FileCause.{FileCause}
use Rattle.uc_bytes.specs.declared.causes.FileCause.TheVariants.{EntrySum}
use Rattle.report_text.specs.Lines.{cause_text}

-- the text of a cause, without the number of an entry
abbrev pub cause_name : FileCause → List ℕ
cause_name (EntrySum i) = codes "entry-sum "
cause_name cause = cause_text cause
