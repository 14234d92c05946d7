use Rattle.paths.proofs.Outcomes.{admission_by_paths}
use Rattle.paths.proofs.admission_by_paths.Goals as goal

pub returns : goal.returns
returns c = admission_by_paths
