use Rattle.assembling.proofs.admitted_lively.Goals as goal
use Rattle.assembling.proofs.Lively.{admitted_lively}

pub returns : goal.returns
returns c = admitted_lively
