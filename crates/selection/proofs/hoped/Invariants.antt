use Rattle.std.proofs.Common.{◌≡◌, ℕ, ◌<◌, map, reverse}
use Rattle.sets.specs.Sets.{has}
use Rattle.sets.specs.Words.{members}
use Rattle.rounds.specs.Round.{hoped_for}
use Rattle.selection.proofs.hoped.Given as goal

abbrev pub invariant-loop-removed : goal.invariant-loop-removed
invariant-loop-removed l = (v : ℕ) → v < 448 → has (members l.set) v ≡ hoped_for (reverse (map (λ r. r.now) l.yielded)) v
