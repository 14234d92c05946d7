use Rattle.paths.proofs.Outcomes.{unreached_by_paths}
use Rattle.paths.proofs.unreached_by_paths.Goals as goal

pub returns : goal.returns
returns c = unreached_by_paths
