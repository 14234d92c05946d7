use Rattle.interfering.proofs.liveness_by_ways.Goals as goal
use Rattle.interfering.proofs.Living.{lives}

pub returns : goal.returns
returns c = lives
