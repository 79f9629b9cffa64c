-- The line of an item, after the number of its thread.
use Rattle.std.specs.Prelude.{ℕ, List, ◌++◌, codes}
use Rattle.rendezvous_steps.specs.declared.items.What.{What}
use Rattle.rendezvous_steps.specs.ItemText.{what_text}

abbrev pub words_line : What → List ℕ
words_line what = codes " " ++ what_text what ++ codes "\n"
