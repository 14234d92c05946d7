use Rattle.interfering.proofs.writing_makes_edges.Goals as goal
use Rattle.interfering.proofs.Edges.{writing}

pub returns : goal.returns
returns c = writing
