use Rattle.colouring.proofs.round_settles.Goals as goal
use Rattle.colouring.proofs.Rounds.{round_settles}

pub returns : goal.returns
returns c = round_settles
