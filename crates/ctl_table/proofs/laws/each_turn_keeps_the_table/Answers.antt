use Rattle.ctl_table.proofs.Turning.{turn_kept}
use Rattle.ctl_table.proofs.laws.each_turn_keeps_the_table.Goals as goal

pub returns : goal.returns
returns c plan s id v h op found sound held there steps operates known finds =
    turn_kept plan s id v h op found
    record { sound = sound; held = held; sits = there; steps = steps; operates = operates; known = known; finds = finds }
