use Rattle.lists.proofs.Pushing.{pushed}
use Rattle.lists.proofs.Few.push.Goals as goal

pub invariant_of-self : goal.invariant_of-self
invariant_of-self g c = pushed g.row.N g.T.Blank.blank_value c.args.x c.self.inside.items c.self.inside.count c.self.invariant c.if-self.true
