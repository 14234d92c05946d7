use Rattle.transfer.proofs.neighbouring_temporaries_share_a_block.Goals as goal
use Rattle.transfer.proofs.Pairing.{neighbours_couple}

pub returns : goal.returns
returns c = neighbours_couple
