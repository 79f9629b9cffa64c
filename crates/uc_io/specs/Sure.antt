-- What files that never fail are seen as.
use Rattle.std.specs.Prelude.{ℕ, List, [], Option}
use Rattle.std.specs.Option.{unwrap_or}
use Rattle.uc_io.specs.Contents.{bytes_under}
use Rattle.uc_io.specs.declared.sure_files.SureFiles.{SureFiles}

-- the bytes that were put under a name
abbrev pub put_under : SureFiles → List ℕ → Option (List ℕ)
put_under files = bytes_under files.contents

-- what a name holds: the bytes that were put under it, and none where it was not put
abbrev pub holds_of : SureFiles → List ℕ → List ℕ
holds_of files name = unwrap_or (put_under files name) []

-- what is left of the file that is open
abbrev pub left_of : SureFiles → List ℕ
left_of files = files.opened
