use Rattle.desk_laws.proofs.Replies.{reload_replies}
use Rattle.desk_laws.proofs.a_reload_has_five_replies.Goals as goal

pub returns : goal.returns
returns c =
    reload_replies c.a_listed_run_is_played.ensures c.a_patient_schedule_is_done.ensures
    c.the_verdict_is_the_first_that_holds.ensures.one
