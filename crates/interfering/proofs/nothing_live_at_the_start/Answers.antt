use Rattle.interfering.proofs.nothing_live_at_the_start.Goals as goal
use Rattle.interfering.proofs.Starting.{none_live_at_start}

pub returns : goal.returns
returns c = none_live_at_start
