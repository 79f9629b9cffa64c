-- Bytes under names.
use Rattle.std.specs.Prelude.{ℕ, List, Option}
use Rattle.std.specs.Option.{option_map}
use Rattle.std.specs.BTreeMap.{get_by_text}
use Rattle.uc_io.specs.declared.contents.Contents.{Contents}

-- the bytes under a name
abbrev pub bytes_under : Contents → List ℕ → Option (List ℕ)
bytes_under contents name = option_map (λ bytes. bytes.value.items) (get_by_text contents.by_name name)
