use Rattle.standing.proofs.Slots.{slot_of_node}
use Rattle.standing.proofs.slots_belong_to_nodes.Goals as goal

pub returns : goal.returns
returns c = slot_of_node
