use Rattle.transfer.proofs.hard_edges_transfer.Goals as goal
use Rattle.transfer.proofs.Clashing.{hard_edges_transfer}

pub returns : goal.returns
returns c = hard_edges_transfer
