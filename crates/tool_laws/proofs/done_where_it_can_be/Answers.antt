use Rattle.tool_laws.proofs.Complete.{complete}
use Rattle.tool_laws.proofs.done_where_it_can_be.Goals as goal

pub returns : goal.returns
returns c = λ line holds reads files text status can held is.
    complete c.a_patient_schedule_is_done.ensures c.the_verdict_is_the_first_that_holds.ensures.one holds reads held line
    files text status can is
