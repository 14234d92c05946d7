use Rattle.std.proofs.Common.{take, ap, ◌∙◌}
use Rattle.sets.specs.Words.{members}
use Rattle.rewriting.proofs.Spilling.{ticket_same, order_shown, given_shown, places_shown, placed}
use Rattle.compiling.specs.Spill.{spill_order, slots_after, places_spilled}
use Rattle.drafts.specs.Drafts.{working_of}
use Rattle.rewriting.specs.Orders.{slot_below}
use Rattle.rewriting.proofs.spill.Goals as goal

pub returns : goal.returns
unfolding placed
returns c o s m =
    let d = c.args.draft.now in
    let end = c.args.end.now in
    let slots = c.slots.result in
    let order = order_shown d end o s m (members c.variables_in.result) (take d.source.vars slots) c.variables_in.ensures c.slots.ensures in
    ticket_same _ (spill_order (working_of d) o) _ (slots_after (working_of d) o) _ (places_spilled (working_of d) o) order (c.slot_below.ensures ∙ ap (slot_below d end) c.len.ensures.count ∙ given_shown d end o s m)
    (places_shown d end o s m (members c.variables_in.result) (members c.variables_in-2.result) slots order c.variables_in-2.ensures)
