use Rattle.packing.proofs.Back.{reads_well}
use Rattle.packing.proofs.reading_is_well_formed.Goals as goal

pub returns : goal.returns
returns c = reads_well
