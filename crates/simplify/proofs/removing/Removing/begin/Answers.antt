use Rattle.simplify.proofs.removing.Removing.begin.Goals as goal

pub invariant_of-result : goal.invariant_of-result
invariant_of-result g c = record { priced = c.requires; within = c.small.ensures; lit = c.light_nodes.ensures }
