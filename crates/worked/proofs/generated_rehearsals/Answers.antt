use Rattle.worked.proofs.Generated.{rehearsals}
use Rattle.worked.proofs.generated_rehearsals.Goals as goal

pub returns : goal.returns
returns c = rehearsals
