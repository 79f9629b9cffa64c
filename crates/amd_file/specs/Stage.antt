-- How many bytes are taken together.
use Rattle.std.specs.Prelude.{ℕ, ◌+◌}
use Rattle.uc_bytes.specs.declared.TheConstants.{FILE_LIMIT}
use Rattle.amd_file.specs.declared.progress.Stage.{Stage}
use Rattle.amd_file.specs.declared.progress.Stage.TheVariants.{Head, Next, Rows, Tail, Header, Body, Failed}

-- at least so many
abbrev pub want : Stage → ℕ
want Head = 12
want Next = 8
want (Rows more tail) = 16
want (Header size) = 64
want stage = 1

-- at most so many
abbrev pub most : Stage → ℕ
most Head = 12
most Next = 8
most (Rows more tail) = 16
most (Tail left) = left + 1
most (Header size) = 64
most (Body header left) = left + 1
most (Failed fault) = FILE_LIMIT
