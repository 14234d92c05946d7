use Rattle.transfer.proofs.shared_nodes_are_quiet.Goals as goal
use Rattle.transfer.proofs.Settling.{shared_nodes_quiet}

pub returns : goal.returns
returns c = shared_nodes_quiet
