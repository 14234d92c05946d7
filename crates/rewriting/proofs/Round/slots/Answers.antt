use Rattle.std.proofs.Common.{ℕ, refl, ap, ◌∙◌, arith, length-set}
use Rattle.counting.specs.Counting.{range}
use Rattle.layout.proofs.Lists.{filled_more}
use Rattle.rewriting.specs.Orders.{node_in, slot_below}
use Rattle.rewriting.proofs.Round.slots.Goals as goal

pub loop-v-init : goal.loop-v-init
unfolding range
loop-v-init c = (refl, refl)

pub loop-v-preserved : goal.loop-v-preserved
loop-v-preserved c =
    let d = c.args.self.now.draft.now in
    let end = c.args.self.now.end.now in
    let f : ℕ → ℕ = λ v. slot_below d end (node_in d end v) in
    (filled_more f c.loop-v.slots c.loop-v.v c.slot_below.result (omega (arith, d.source.few)) c.loop-v.invariant.0 (c.slot_below.ensures ∙ ap (slot_below d end) c.node_of.ensures), simp length-set c.loop-v.invariant.1)
