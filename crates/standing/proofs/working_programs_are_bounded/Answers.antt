use Rattle.standing.proofs.Keeping.{standing_bounded}
use Rattle.standing.proofs.working_programs_are_bounded.Goals as goal

pub returns : goal.returns
returns c = standing_bounded
