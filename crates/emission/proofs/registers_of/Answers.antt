use Rattle.std.proofs.Common.{◌≤◌, length, take, arith, length-take}
use Rattle.layout.proofs.Lists.{mapped_push}
use Rattle.emission.specs.Emission.{node_register}
use Rattle.emission.proofs.registers_of.Goals as goal

pub loop-node-preserved : goal.loop-node-preserved
loop-node-preserved c =
    let d = c.args.draft.now in
    let e = c.args.end.now in
    let nodes = take (length d.classes) e.node in
    let few : length nodes ≤ 448 = simp length-take (omega (arith, d.few)) in
    mapped_push 448 (node_register d e) nodes c.loop-node.node-index _ few (rw c.len-n.ensures.count at c.loop-node-test.true) c.loop-node.invariant (rw c.len-n.ensures.count at c.register_of.ensures) c.push.ensures.items
