use Rattle.histories.proofs.grown_programs_fit.Goals as goal
use Rattle.histories.proofs.Growing.{grown_fits}

pub returns : goal.returns
returns c = grown_fits
