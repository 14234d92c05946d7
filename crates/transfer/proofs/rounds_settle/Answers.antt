use Rattle.transfer.proofs.rounds_settle.Goals as goal
use Rattle.transfer.proofs.Settling.{rounds_settle}

pub returns : goal.returns
returns c = rounds_settle
