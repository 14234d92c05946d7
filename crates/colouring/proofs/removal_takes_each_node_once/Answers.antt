use Rattle.colouring.proofs.removal_takes_each_node_once.Goals as goal
use Rattle.colouring.proofs.Removing.{all_removed}

pub returns : goal.returns
returns c = all_removed
