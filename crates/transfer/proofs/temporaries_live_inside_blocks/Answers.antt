use Rattle.transfer.proofs.temporaries_live_inside_blocks.Goals as goal
use Rattle.transfer.proofs.Inside.{temporaries_inside}

pub returns : goal.returns
returns c = temporaries_inside
