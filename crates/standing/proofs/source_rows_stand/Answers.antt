use Rattle.standing.proofs.Keeping.{standing_stands}
use Rattle.standing.proofs.source_rows_stand.Goals as goal

pub returns : goal.returns
returns c = standing_stands
