-- The texts of items and of results.
use Rattle.std.specs.Prelude.{ℕ, List, ◌++◌, codes, decimal}
use Rattle.uc_text.specs.Digits.{hex8_of}
use Rattle.rendezvous_steps.specs.declared.steps.ThreadResult.{ThreadResult}
use Rattle.rendezvous_steps.specs.declared.steps.ThreadResult.TheVariants as results
use Rattle.rendezvous_steps.specs.declared.items.What.{What}
use Rattle.rendezvous_steps.specs.declared.items.What.TheVariants as what
use Rattle.rendezvous_steps.specs.declared.items.Item.{Item}

-- what a thread leaves with
abbrev pub result_text : ThreadResult → List ℕ
result_text results.Updated = codes "updated"
result_text results.Okay = codes "ok"
result_text results.Current = codes "current"
result_text results.Error = codes "error"
result_text results.Timeout = codes "timeout"
result_text results.Offline = codes "offline"

-- what a thread did
abbrev pub what_text : What → List ℕ
what_text what.Enter = codes "enter"
what_text (what.Kick k) = codes "kick " ++ decimal k
what_text what.Arrive = codes "arrive"
what_text what.Go = codes "go"
what_text what.Drop = codes "drop"
what_text what.DropKick = codes "drop-kick"
what_text (what.Withdraw k) = codes "withdraw " ++ decimal k
what_text (what.Begin g) = codes "begin " ++ decimal g
what_text (what.Wrote g rev) = codes "wrote " ++ decimal g ++ codes " " ++ hex8_of rev
what_text (what.Report g result) = codes "report " ++ decimal g ++ codes " " ++ result_text result
what_text (what.Free s) = codes "free " ++ decimal s
what_text (what.Leave result) = codes "leave " ++ result_text result
what_text what.Halt = codes "halt"
what_text what.Ordinary = codes "ordinary"
what_text what.Poll = codes "poll"
what_text what.Inner = codes "inner"
what_text what.Latched = codes "latched"
what_text what.Idle = codes "idle"

-- the line of an item
unfoldable pub item_line : Item → List ℕ
item_line item = decimal item.thread ++ codes " " ++ what_text item.what ++ codes "\n"
