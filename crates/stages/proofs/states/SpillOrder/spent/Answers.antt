use Rattle.std.proofs.Common.{sym, subst}
use Rattle.compiling.specs.Working.{Working}
use Rattle.histories.specs.Histories.{HasGrown}
use Rattle.stages.specs.Stages.{working_in}
use Rattle.stages.proofs.Pending.{spent_grown, spent_room}
use Rattle.stages.proofs.states.SpillOrder.spent.Goals as goal

pub invariant_of-result : goal.invariant_of-result
invariant_of-result c =
    let w = working_in c.args.self.record.now in
    let t = c.args.self.token in
    let P : Working → Type 0 = λ x. HasGrown x in
    record { grown = subst P (sym (c.rewrite-draft.ensures (spent_room t w c.args.self.pending))) (spent_grown t w c.args.self.pending) }

pub returns : goal.returns
returns c = c.rewrite-draft.ensures (spent_room c.args.self.token (working_in c.args.self.record.now) c.args.self.pending)
