use Rattle.worked.proofs.Worked.{cases}
use Rattle.worked.proofs.worked_cases.Goals as goal

pub returns : goal.returns
returns c = cases
