use Rattle.agreement.proofs.few_rounds_suffice.Goals as goal
use Rattle.agreement.proofs.Induction.{promptness}

pub returns : goal.returns
returns c = promptness
