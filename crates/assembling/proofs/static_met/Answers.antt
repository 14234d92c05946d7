use Rattle.assembling.proofs.static_met.Goals as goal
use Rattle.assembling.proofs.Whole.{static_met}

pub returns : goal.returns
returns c = static_met
