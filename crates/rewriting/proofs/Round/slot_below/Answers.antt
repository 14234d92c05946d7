use Rattle.std.proofs.Common.{◌≡◌, min, ◌∙◌, arith}
use Rattle.sets.specs.Sets.{size}
use Rattle.sets.specs.Words.{members}
use Rattle.sets.proofs.Orders.{size_capped}
use Rattle.rewriting.specs.Orders.{slot_below}
use Rattle.rewriting.proofs.Spilling.{size_front}
use Rattle.rewriting.proofs.Round.slot_below.Goals as goal

pub overflow_add-self : goal.overflow_add-self
overflow_add-self c = omega (arith, c.len-below.ensures, size_capped 448 (members c.meet.result))

pub returns : goal.returns
unfolding slot_below
returns c =
    let x = members c.args.self.now.end.now.spilled in
    let few : c.len-below.result ≡ size (min c.args.n 448) x = c.len-below.ensures ∙ rw (c.meet.ensures, c.up_to.ensures) (size_front x (min c.args.n 448) (omega arith)) in
    rw few at c.min.ensures
