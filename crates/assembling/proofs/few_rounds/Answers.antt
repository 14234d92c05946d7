use Rattle.assembling.proofs.few_rounds.Goals as goal
use Rattle.assembling.proofs.Rounds.{few_rounds}

pub returns : goal.returns
returns c = few_rounds
