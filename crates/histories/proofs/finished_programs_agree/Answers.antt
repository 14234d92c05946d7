use Rattle.histories.proofs.finished_programs_agree.Goals as goal
use Rattle.histories.proofs.Turning.{finished_agrees}

pub returns : goal.returns
returns c = finished_agrees
