use Rattle.transfer.proofs.temporaries_are_paired.Goals as goal
use Rattle.transfer.proofs.Pairing.{temporaries_paired}

pub returns : goal.returns
returns c = temporaries_paired
