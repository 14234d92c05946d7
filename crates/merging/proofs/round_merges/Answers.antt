use Rattle.merging.proofs.round_merges.Goals as goal
use Rattle.merging.proofs.Rounds.{round_merges}

pub returns : goal.returns
returns c = round_merges
