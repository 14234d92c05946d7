use Rattle.std.proofs.Common.{◌∙◌, arith}
use Rattle.std.proofs.lemmas.List.{length-take-le}
use Rattle.allocation.proofs.Emptying.{part_emptied, front_emptied}
use Rattle.allocation.proofs.Round.colour_within.Goals as goal

pub returns : goal.returns
returns g c =
    let n = c.args.self.now.variables.now.count in
    let few = c.args.self.now.variables.now.few.1 in
    let live = part_emptied 512 c.args.live.now c.colour-colouring.new.live c.clear.new.sets (omega (arith, c.requires.live, c.colour-colouring.auto.live)) c.colour-colouring.ensures.past c.clear.ensures in
    let edges = front_emptied 448 n c.args.edges.now c.colour-colouring.new.edges c.clear-2.new.sets few c.requires.edges (c.colour-colouring.auto.edges ∙ length-take-le n c.args.edges.now (omega (arith, few, c.requires.edges))) c.clear-2.ensures in
    let hard = front_emptied 448 n c.args.hard.now c.colour-colouring.new.hard c.clear-3.new.sets few c.requires.hard (c.colour-colouring.auto.hard ∙ length-take-le n c.args.hard.now (omega (arith, few, c.requires.hard))) c.clear-3.ensures in
    record { shows = c.colour-colouring.ensures.shows; memory = rw (live, edges, hard) }
