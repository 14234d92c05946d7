use Rattle.colouring.proofs.tested_nodes_find_registers.Goals as goal
use Rattle.colouring.proofs.Selecting.{tested_nodes_find}

pub returns : goal.returns
returns c = tested_nodes_find
