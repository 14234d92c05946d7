use Rattle.histories.proofs.known_histories_suffice.Goals as goal
use Rattle.histories.proofs.Merely.{histories_known}

pub returns : goal.returns
returns c = histories_known
