use Rattle.merging.proofs.admitted_in_order.Goals as goal
use Rattle.merging.proofs.First.{admitted_in_order}

pub returns : goal.returns
returns c = admitted_in_order
