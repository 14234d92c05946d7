use Rattle.transfer.proofs.liveness_transfers.Goals as goal
use Rattle.transfer.proofs.Living.{liveness_transfers}

pub returns : goal.returns
returns c = liveness_transfers
