use Rattle.std.proofs.Common.{refl}
use Rattle.sets.specs.Words.{joined}
use Rattle.answers.proofs.Memory.new.Goals as goal

pub returns : goal.returns
unfolding joined
returns c = refl
