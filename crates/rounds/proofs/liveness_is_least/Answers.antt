use Rattle.rounds.proofs.Lively.{live_least}
use Rattle.rounds.proofs.liveness_is_least.Goals as goal

pub returns : goal.returns
returns c = live_least
