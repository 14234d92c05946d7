use Rattle.std.proofs.Common.{ℕ, ◌^◌, ◌<◌, ap, subst}
use Rattle.sets.specs.Rising.{rising}
use Rattle.sets.proofs.Words.{joined_small}
use Rattle.sets.proofs.NodeSetIntoIterator.into_iter.Goals as goal

pub returns : goal.returns
returns c = record { into_iter_gives = (ap rising c.self.view_is, subst (λ (x : ℕ). x < 2 ^ 448) c.self.view_is (joined_small c.self.inside.words c.self.invariant)) }
