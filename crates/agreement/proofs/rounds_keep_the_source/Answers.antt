use Rattle.agreement.proofs.rounds_keep_the_source.Goals as goal
use Rattle.agreement.proofs.Places.{rounds_faithful}

pub returns : goal.returns
returns c = rounds_faithful
