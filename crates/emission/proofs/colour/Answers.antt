use Rattle.std.proofs.Common.{◌≡◌, suc, refl, arith}
use Rattle.compiling.specs.Emit.{registers_of}
use Rattle.emission.proofs.Showing.{registers_shown, places_shown}
use Rattle.emission.proofs.colour.Goals as goal

pub returns : goal.returns
returns c o s i l =
    let d = c.args.draft.now in
    let end = c.args.end.now in
    let registers : c.registers_of-next.result ≡ registers_of o = registers_shown d end o _ s c.registers_of-next.ensures.registers in
    let round : c.saturating_add.result ≡ suc d.rounds = omega arith in
    let places = places_shown d _ end o _ s i (record { nodes = refl; registers = registers; rounds = round; vars = refl; places = refl }) c.places_of-next.ensures.places in
    cc
