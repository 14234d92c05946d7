use Rattle.transfer.proofs.working_rows_in_order.Goals as goal
use Rattle.transfer.proofs.Pairing.{in_order}

pub returns : goal.returns
returns c = in_order
