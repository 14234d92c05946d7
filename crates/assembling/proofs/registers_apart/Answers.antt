use Rattle.assembling.proofs.registers_apart.Goals as goal
use Rattle.assembling.proofs.Apart.{registers_apart}

pub returns : goal.returns
returns c = registers_apart
