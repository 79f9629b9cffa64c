use Rattle.uc_session.proofs.playing.tell_load.Goals as goal

pub returns : goal.returns
returns g c = (c.load.result, c.load.ensures.ups, c.load.ensures.answer, c.tell.ensures)
