use Rattle.std.proofs.Common.{ℕ, ◌^◌, ◌<◌, subst}
use Rattle.sets.proofs.Words.{joined_small}
use Rattle.sets.proofs.NodeSet.small.Goals as goal

pub returns : goal.returns
returns c = subst (λ (x : ℕ). x < 2 ^ 448) c.self.view_is (joined_small c.self.inside.words c.self.invariant)
