use Rattle.packing.proofs.Forgets.{forgets}
use Rattle.packing.proofs.reading_forgets_nothing.Goals as goal

pub returns : goal.returns
returns c = forgets
