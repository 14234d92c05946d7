use Rattle.histories.proofs.rounds_progress.Goals as goal
use Rattle.histories.proofs.Growing.{rounds_progress}

pub returns : goal.returns
returns c = rounds_progress
