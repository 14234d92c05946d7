use Rattle.assembling.proofs.compiled_agrees.Goals as goal
use Rattle.assembling.proofs.Whole.{compiled_agrees}

pub returns : goal.returns
returns c = compiled_agrees
