use Rattle.assembling.proofs.admitted_sound.Goals as goal
use Rattle.assembling.proofs.Whole.{admitted_sound}

pub returns : goal.returns
returns c = admitted_sound
