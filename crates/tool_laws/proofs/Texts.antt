-- What holds of the session or the selection that a text is of.
use Rattle.std.proofs.Common.{true}
use Rattle.uc_topology.proofs.Partition.{partition}
use Rattle.uc_gen.specs.Texts.{topology_text, script_text}
use Rattle.script_text.proofs.Kept.{within}
use Rattle.tool_text.specs.Words.{Faulty, ListOf, ShowOf, SelectOf, PlayOf, GenOf}
use Rattle.tool_text.specs.Commands.{entries_of_all}
use Rattle.tool_text.specs.Plays.{limits_of, setting_of}
use Rattle.tool_laws.specs.Laws.{TextsHold}
use Rattle.tool_laws.proofs.Offering.{best_at_boot}
use Rattle.tool_laws.proofs.Sessions.{Laws, session_holds}
use Rattle.tool_laws.proofs.SomePlay.{all_in_range}

pub texts_hold : Laws → TextsHold
texts_hold laws (Faulty i) reads files text status = tt
texts_hold laws (ListOf names) reads files text status = tt
texts_hold laws (ShowOf name number) reads files text status = tt
texts_hold laws (SelectOf topology names) reads files text status = λ selects readings accepted selection.
    record {
      readings = readings;
      accepted = accepted;
      best = λ core number below is.
          best_at_boot selects.machine (partition selects.bytes selects.machine selects.is_machine.states) core below
          (entries_of_all readings) selection.offers number selection.are_offers is;
    }
texts_hold laws (PlayOf topology script) reads files text status = λ machine behind states plays.
    let limits = limits_of machine in
    session_holds laws true (setting_of machine plays.stated) (partition states.bytes machine states.is_machine.states)
    plays.stated.commands plays.plays.dids
    (all_in_range machine plays.stated (within limits plays.bytes plays.stated plays.is_script.states)) plays.plays.steps
texts_hold laws (GenOf number) reads files text status = λ gen.
    let its = gen.generated in
    let limits = limits_of its.machine in
    session_holds laws true (setting_of its.machine its.stated) (partition (topology_text number) its.machine its.is_machine)
    its.stated.commands its.plays.dids
    (all_in_range its.machine its.stated (within limits (script_text number) its.stated its.is_script)) its.plays.steps
