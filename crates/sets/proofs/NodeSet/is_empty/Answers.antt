use Rattle.sets.specs.Words.{joined}
use Rattle.sets.proofs.NodeSet.is_empty.Goals as goal

pub returns : goal.returns
unfolding joined
returns c = c.eq.ensures
