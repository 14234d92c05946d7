use Rattle.colouring.proofs.test_finds_a_register.Goals as goal
use Rattle.colouring.proofs.Selecting.{test_finds_registers}

pub returns : goal.returns
returns c = test_finds_registers
