use Rattle.std.proofs.Common.{refl, ap, ◌∙◌}
use Rattle.rows.specs.Rows.{shape}
use Rattle.players.specs.Playing.{numbers_in, shared_of}
use Rattle.players.proofs.Numbers.{stored_set}
use Rattle.players.proofs.Tape.meaning.Goals as goal

pub returns-in-Store : goal.returns-in-Store
returns-in-Store c =
    let long = c.requires (ap (λ o. (shape o).slot) c.in-Store.is) in
    let e = ap numbers_in c.put-in-Store.ensures ∙ stored_set c.args.slots.now c.args.row.slot c.args.x long in
    rw c.in-Store.is (record { answer = refl; shared = ap (λ s. shared_of c.args.self.now s) e })
