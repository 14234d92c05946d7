use Rattle.merging.proofs.no_hard_edge_inside_a_node.Goals as goal
use Rattle.merging.proofs.Rounds.{no_hard_edge_inside}

pub returns : goal.returns
returns c = no_hard_edge_inside
