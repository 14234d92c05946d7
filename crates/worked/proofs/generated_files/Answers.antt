use Rattle.worked.proofs.Generated.{generated}
use Rattle.worked.proofs.generated_files.Goals as goal

pub returns : goal.returns
returns c = generated
