use Rattle.std.proofs.Common.{◌≡◌, ◌<◌, length, ap, ◌∙◌, arith}
use Rattle.std.proofs.lemmas.List.{length-take-le}
use Rattle.rows.specs.declared.Row.{Row}
use Rattle.rows.specs.Rows.{row_at}
use Rattle.machine.specs.Machine.{Shared, Effect, effect}
use Rattle.players.specs.Playing.{numbers_in, shared_of, rows_of, leads}
use Rattle.players.proofs.Effects.{leads_inside}
use Rattle.players.proofs.Player.turn.Goals as goal

pub invariant_of-self-2 : goal.invariant_of-self-2
invariant_of-self-2 c =
    let p = c.args.self.now in
    let x = c.args.x in
    let y = c.args.y in
    let h : Shared = shared_of p.tape (numbers_in c.args.slots.now) in
    let r = row_at (rows_of p) p.row in
    let long : length (rows_of p) ≡ p.count = length-take-le p.count p.rows (omega arith) in
    let stands : p.row < length (rows_of p) = omega arith in
    let inside = leads_inside r x y h p.row (length (rows_of p)) stands (p.inside p.row stands) in
    let e : c.leads-self.result ≡ leads r (effect r x y h) p.row =
    c.leads-self.ensures ∙ ap (λ (z : Effect). leads c.current-row.result z p.row) c.in_ok-turn.ensures ∙ ap (λ (z : Row). leads z (effect z x y h) p.row) c.current-row.ensures in
    let goes : c.leads-self.result < p.count = omega arith in
    record { few = p.few; whole = p.whole; inside = p.inside; classed = p.classed; stands = goes }
