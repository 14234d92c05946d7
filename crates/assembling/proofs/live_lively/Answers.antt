use Rattle.assembling.proofs.live_lively.Goals as goal
use Rattle.assembling.proofs.Lively.{live_lively}

pub returns : goal.returns
returns c = live_lively
