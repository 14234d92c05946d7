use Rattle.transfer.proofs.slots_are_shared_harmlessly.Goals as goal
use Rattle.transfer.proofs.Sharing.{sharing_harmless}

pub returns : goal.returns
returns c = sharing_harmless
