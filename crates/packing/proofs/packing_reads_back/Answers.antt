use Rattle.packing.proofs.Back.{reads_back}
use Rattle.packing.proofs.packing_reads_back.Goals as goal

pub returns : goal.returns
returns c = reads_back
