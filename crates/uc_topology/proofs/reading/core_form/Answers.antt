use Rattle.uc_topology.specs.declared.forms.Version.TheVariants.{Cores, Packages}
use Rattle.uc_topology.proofs.Body.{core_words}
use Rattle.uc_topology.proofs.reading.core_form.Goals as goal

pub returns-in-Cores-clause-words : goal.returns-in-Cores-clause-words
returns-in-Cores-clause-words c = core_words Cores

pub returns-in-Packages-clause-words : goal.returns-in-Packages-clause-words
returns-in-Packages-clause-words c = core_words Packages
