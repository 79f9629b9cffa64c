-- Lines that are read one after the other.
use Rattle.std.proofs.Common.{◌≤◌, length, codes, lit≤}
use Rattle.uc_text.specs.Lines.{words_of}
use Rattle.uc_topology.specs.declared.forms.Version.{Version}
use Rattle.uc_topology.specs.declared.forms.Version.TheVariants.{Cores, Packages}
use Rattle.uc_topology.specs.Grammar.{core_form}

-- no form has more than ten words
pub core_words : (version : Version) → length (words_of (core_form version)) ≤ 10
unfolding words_of
core_words Cores = lit≤ tt
core_words Packages = lit≤ tt

pub thread_words : length (words_of (codes "cpu T core C")) ≤ 10
unfolding words_of
thread_words = lit≤ tt
