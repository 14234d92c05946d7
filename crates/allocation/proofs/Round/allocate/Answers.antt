use Rattle.std.proofs.Common.{false}
use Rattle.admission.specs.Memory.{parts}
use Rattle.allocation.proofs.Emptying.{short_told, roomy_emptied}
use Rattle.allocation.proofs.Round.allocate.Goals as goal

pub returns : goal.returns
returns g c =
    let lent = parts c.args.live.now c.args.edges.now c.args.hard.now in
    let left = parts c.colour_within.new.live c.colour_within.new.edges c.colour_within.new.hard in
    record { shows = c.colour_within.ensures.shows; memory = roomy_emptied lent left (short_told lent c.short_part.result false c.short_part.ensures c.if-is_err.ensures.value) c.colour_within.ensures.memory }
