use Rattle.std.proofs.Common.{rules}
use Rattle.emission.specs.Emission.{place_after}
use Rattle.emission.proofs.place_of.Goals as goal

pub returns-then-is_slot : goal.returns-then-is_slot
unfolding place_after
returns-then-is_slot c = search rules

pub returns : goal.returns
unfolding place_after
returns c = search rules
