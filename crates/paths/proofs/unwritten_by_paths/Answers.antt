use Rattle.paths.proofs.Outcomes.{unwritten_by_paths}
use Rattle.paths.proofs.unwritten_by_paths.Goals as goal

pub returns : goal.returns
returns c = unwritten_by_paths
