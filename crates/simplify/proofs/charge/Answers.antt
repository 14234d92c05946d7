use Rattle.std.proofs.Common.{get_or}
use Rattle.simplify.proofs.Costs.{charged, spared, spared_none}
use Rattle.simplify.proofs.charge.Goals as goal

pub returns-in_default-clause-exact : goal.returns-in_default-clause-exact
returns-in_default-clause-exact c = λ gr e k h. rw c.in_default.is (spared_none gr c.args.price (get_or c.args.costs.now k 0) k)

pub returns-then-at-costs-clause-exact : goal.returns-then-at-costs-clause-exact
returns-then-at-costs-clause-exact c = λ gr e k h. rw c.in-Some.is (charged gr c.args.node.now e c.in-Some.v c.node_of-at.result c.args.price c.args.costs.now c.node_of-at.ensures c.if-at-costs.true k)

pub returns-else-at-costs-clause-exact : goal.returns-else-at-costs-clause-exact
returns-else-at-costs-clause-exact c = λ gr e k h. rw c.in-Some.is (spared gr c.args.node.now e c.in-Some.v c.node_of-at.result c.args.price c.args.costs.now c.node_of-at.ensures c.if-at-costs.false k h)
