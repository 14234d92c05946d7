use Rattle.std.proofs.Common.{ltb, ap, ◌∙◌}
use lib.Bits.{or_zero_l}
use Rattle.sets.specs.Sets.{single, minus, when}
use Rattle.sets.specs.Words.{joined}
use Rattle.sets.proofs.NodeSet.without.Goals as goal

pub returns : goal.returns
unfolding joined
returns c = c.minus.ensures ∙ ap (minus c.args.self) (c.with.ensures ∙ or_zero_l (when (ltb c.args.v 448) (single c.args.v)))
