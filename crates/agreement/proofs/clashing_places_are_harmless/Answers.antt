use Rattle.agreement.proofs.clashing_places_are_harmless.Goals as goal
use Rattle.agreement.proofs.Places.{clashes_harmless}

pub returns : goal.returns
returns c = clashes_harmless
