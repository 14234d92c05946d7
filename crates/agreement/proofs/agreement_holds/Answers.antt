use Rattle.agreement.proofs.agreement_holds.Goals as goal
use Rattle.agreement.proofs.Induction.{agreement}

pub returns : goal.returns
returns c = agreement
