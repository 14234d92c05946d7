use Rattle.transfer.proofs.edges_transfer.Goals as goal
use Rattle.transfer.proofs.Settling.{edges_transfer}

pub returns : goal.returns
returns c = edges_transfer
