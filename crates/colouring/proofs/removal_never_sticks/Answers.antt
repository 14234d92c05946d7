use Rattle.colouring.proofs.removal_never_sticks.Goals as goal
use Rattle.colouring.proofs.Sticking.{temporaries_pass}

pub returns : goal.returns
returns c = temporaries_pass
