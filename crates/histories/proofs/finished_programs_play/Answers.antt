use Rattle.histories.proofs.finished_programs_play.Goals as goal
use Rattle.histories.proofs.Playing.{finished_plays}

pub returns : goal.returns
returns c = finished_plays
