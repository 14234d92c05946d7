use Rattle.transfer.proofs.classes_stay_three.Goals as goal
use Rattle.transfer.proofs.Settling.{classes_stay}

pub returns : goal.returns
returns c = classes_stay
