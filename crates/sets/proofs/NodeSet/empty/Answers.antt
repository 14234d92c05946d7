use Rattle.std.proofs.Common.{refl}
use Rattle.sets.specs.Words.{joined}
use Rattle.sets.proofs.NodeSet.empty.Goals as goal

pub returns : goal.returns
unfolding joined
returns c = refl
