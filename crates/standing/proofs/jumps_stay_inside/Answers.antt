use Rattle.standing.proofs.Keeping.{jumps_inside}
use Rattle.standing.proofs.jumps_stay_inside.Goals as goal

pub returns : goal.returns
returns c = jumps_inside
