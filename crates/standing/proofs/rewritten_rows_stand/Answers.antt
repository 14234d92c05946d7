use Rattle.standing.proofs.Keeping.{rewritten_stands}
use Rattle.standing.proofs.rewritten_rows_stand.Goals as goal

pub returns : goal.returns
returns c = rewritten_stands
