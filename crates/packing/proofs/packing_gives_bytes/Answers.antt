use Rattle.packing.proofs.Back.{packs_bytes}
use Rattle.packing.proofs.packing_gives_bytes.Goals as goal

pub returns : goal.returns
returns c = packs_bytes
