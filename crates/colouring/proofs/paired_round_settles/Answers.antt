use Rattle.colouring.proofs.paired_round_settles.Goals as goal
use Rattle.colouring.proofs.Rounds.{paired_settles}

pub returns : goal.returns
returns c = paired_settles
