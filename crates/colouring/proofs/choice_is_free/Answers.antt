use Rattle.colouring.proofs.choice_is_free.Goals as goal
use Rattle.colouring.proofs.Choosing.{choice_free}

pub returns : goal.returns
returns c = choice_free
