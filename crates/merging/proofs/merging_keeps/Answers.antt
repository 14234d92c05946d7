use Rattle.merging.proofs.merging_keeps.Goals as goal
use Rattle.merging.proofs.Merging.{merging_keeps}

pub returns : goal.returns
returns c = merging_keeps
