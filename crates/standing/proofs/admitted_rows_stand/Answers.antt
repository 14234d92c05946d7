use Rattle.standing.proofs.Sources.{admitted_stands}
use Rattle.standing.proofs.admitted_rows_stand.Goals as goal

pub returns : goal.returns
returns c = admitted_stands
