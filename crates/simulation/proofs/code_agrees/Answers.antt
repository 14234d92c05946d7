use Rattle.simulation.proofs.code_agrees.Goals as goal
use Rattle.simulation.proofs.Calls.{static_agrees}

pub returns : goal.returns
returns c = static_agrees
