use Rattle.colouring.proofs.selection_keeps_neighbours_apart.Goals as goal
use Rattle.colouring.proofs.Selecting.{neighbours_apart}

pub returns : goal.returns
returns c = neighbours_apart
