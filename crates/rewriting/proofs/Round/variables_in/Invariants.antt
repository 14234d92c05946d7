use Rattle.std.proofs.Common.{◌≡◌}
use Rattle.sets.specs.Sets.{has}
use Rattle.sets.specs.Words.{members}
use Rattle.rounds.specs.Round.{those}
use Rattle.rewriting.specs.Orders.{node_in}
use Rattle.rewriting.proofs.Round.variables_in.Given as goal

abbrev pub invariant-loop-v : goal.invariant-loop-v
invariant-loop-v l = members l.set ≡ those (λ v. has (members l.nodes) (node_in l.self.draft.now l.self.end.now v)) l.v
