use Rattle.sets.specs.Walks.{left_of}
use Rattle.sets.proofs.Rises.{lowest_first}
use Rattle.sets.proofs.NodeSet.first.Goals as goal

pub returns : goal.returns
returns c = lowest_first c.args.self (left_of c.into_iter.result) (left_of c.next.new.self) c.next.result c.into_iter.ensures.into_iter_gives.0 c.next.ensures.steps
