use Rattle.colouring.proofs.test_suffices.Goals as goal
use Rattle.colouring.proofs.Suffices.{test_suffices}

pub returns : goal.returns
returns c = test_suffices
