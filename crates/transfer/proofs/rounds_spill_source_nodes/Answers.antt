use Rattle.transfer.proofs.rounds_spill_source_nodes.Goals as goal
use Rattle.transfer.proofs.Spilling.{rounds_spill}

pub returns : goal.returns
returns c = rounds_spill
