use Rattle.merging.proofs.members_share_a_class.Goals as goal
use Rattle.merging.proofs.Rounds.{members_share}

pub returns : goal.returns
returns c = members_share
