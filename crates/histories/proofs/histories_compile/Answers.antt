use Rattle.histories.proofs.histories_compile.Goals as goal
use Rattle.histories.proofs.Turning.{histories_compile}

pub returns : goal.returns
returns c = histories_compile
