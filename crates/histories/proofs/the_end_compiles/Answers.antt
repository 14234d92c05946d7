use Rattle.histories.proofs.the_end_compiles.Goals as goal
use Rattle.histories.proofs.Ending.{ends_first}

pub returns : goal.returns
returns c = ends_first
